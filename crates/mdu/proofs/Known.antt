-- How many bytes a phase has gathered, for every state that does not give 12, whatever its store holds; and that the states of such phases do
-- not give 12.
use Rattle.std.proofs.Common.{◌≡◌, ℕ, ◌+◌, ◌<◌, ◌≤◌, true, cond, ◌&&◌, eqb, ltb, leb, List, [], ◌∷◌, ◌++◌, length, refl, arith, length-append, length-take-le, ltb-true, le-ltb, lt-ltb, ne_eqb, eqb-true, le-leb, leb-true}
use mathlib.Core.Option.{Option}
use Rattle.runs.proofs.Cases.{by_eqb, by_ltb, and_both}
use Rattle.framing.specs.Segment.{Segment, noise_after}
use Rattle.framing.specs.State.{open_after}
use Rattle.framing.specs.State as Shared
use Rattle.mdu.specs.Frame.{Message, length_ok}
use Rattle.mdu.specs.Rules.{Phase, hunting, in_header, in_body, size, gathered, held, stated, header_fault, enter, on_byte}
use Rattle.mdu.specs.Contract.{known_state, mode_of, length_of, phase_of, state_after}
use Rattle.mdu.specs.Steps.{ToCome}
use Rattle.mdu.specs.declared.State.{State}
use Rattle.mdu.proofs.Passed.{passed}

-- how many bytes each phase has gathered
abbrev pub Sized : Phase → Type 0
Sized hunting = Unit
Sized (in_header g) = (1 ≤ length g) × (length g < 6)
Sized (in_body k g) = ToCome k (length g)

pub length_most : (k : ℕ) → length_ok k ≡ true → k ≤ 1025
length_most k h = leb-true k 1025 (and_both (leb 1 k) (leb k 1025) h).1

-- the state of an open frame from six bytes on
abbrev pub body_state : ℕ → ℕ → ℕ → ℕ → State
body_state at o n k = record { base = record { mode = 1; count = at; «open» = o; noise = n }; length = k }

pub body-known : (at o n k : ℕ) → ToCome k at → known_state (body_state at o n k) ≡ true
body-known at o n k h = rw (le-leb at size (omega arith), le-ltb at 6 h.low, h.allowed, lt-ltb at (8 + k) h.high)

-- the state of a sized phase, whatever its other counts
pub sized_known : (p : Phase) (o n : ℕ) → Sized p
    → known_state (record { base = record { mode = mode_of p; count = length (gathered p); «open» = o; noise = n }; length = length_of p }) ≡ true
sized_known hunting o n h = refl
sized_known (in_header g) o n h = rw (le-leb (length g) size (omega arith), lt-ltb (length g) 6 h.1, le-leb 1 (length g) h.0)
sized_known (in_body k g) o n h = body-known (length g) o n k h

enter_sized : (g : List ℕ) → length g ≡ 6 → Sized (enter g).0
enter_sized g l =
    by_eqb (λ (r : Phase × Option (Segment Message)). Sized r.0) (header_fault g) 0
    (λ z. let k = (passed g z).allowed in record { allowed = k; low = omega arith; high = omega arith; most = length_most (stated g) k })
    (λ _. tt)

pub sized_next : (p : Phase) (b : ℕ) → Sized p → Sized (on_byte p b).0
sized_next hunting b h = by_eqb (λ (r : Phase × Option (Segment Message)). Sized r.0) b 0xE3 (λ _. (omega arith, omega arith)) (λ _. tt)
sized_next (in_header g) b h =
    by_eqb (λ (r : Phase × Option (Segment Message)). Sized r.0) (length g) 5
    (λ e. enter_sized (g ++ (b ∷ [])) (simp length-append (omega arith)))
    (λ n. (simp length-append (omega arith), simp length-append (omega arith)))
sized_next (in_body k g) b h =
    by_eqb (λ (r : Phase × Option (Segment Message)). Sized r.0) (length g) (7 + k) (λ _. tt)
    (λ n. record {
      allowed = h.allowed;
      low = simp length-append (omega arith);
      high = simp length-append (omega arith);
      most = h.most;
    })

-- the shared rule in `known_state`, and what it adds
module _ (s : State) (h : known_state s ≡ true) where
  both : (Shared.known_state 2 1 size s.base ≡ true)
      × (cond (eqb s.base.mode 0) true
      (cond (ltb s.base.count 6) (leb 1 s.base.count) (length_ok s.length && ltb s.base.count (8 + s.length))) ≡ true)
  both = and_both _ _ h

  shared : (ltb s.base.mode 2 ≡ true) × (cond (ltb s.base.mode 1) (eqb s.base.count 0) (leb s.base.count size) ≡ true)
  shared = and_both _ _ both.0

  -- with bytes gathered, a frame is open
  pub known_open : 1 ≤ s.base.count → s.base.mode ≡ 0 → ⊥
  known_open l e = omega (arith, eqb-true s.base.count 0 (rw (lt-ltb s.base.mode 1 (omega arith)) at shared.1))

-- an open frame
module _ (s : State) (h : known_state s ≡ true) (opened : s.base.mode ≡ 0 → ⊥) where
  counted : cond (ltb s.base.count 6) (leb 1 s.base.count) (length_ok s.length && ltb s.base.count (8 + s.length)) ≡ true
  counted = rw (ne_eqb s.base.mode 0 opened) at (both s h).1

  pub known-header : s.base.count < 6 → 1 ≤ s.base.count
  known-header l = leb-true 1 s.base.count (rw (lt-ltb s.base.count 6 l) at counted)

  pub known-body : 6 ≤ s.base.count → ToCome s.length s.base.count
  known-body l =
      let all = and_both (length_ok s.length) (ltb s.base.count (8 + s.length)) (rw (le-ltb s.base.count 6 l) at counted) in
      record { allowed = all.0; low = l; high = ltb-true s.base.count (8 + s.length) all.1; most = length_most s.length all.0 }

pub known_sized : (s : State) (store : List ℕ) → known_state s ≡ true → size ≤ length store → Sized (phase_of s store)
known_sized s store h room =
    by_eqb Sized s.base.mode 0 (λ _. tt)
    (λ o. by_ltb Sized s.base.count 6
    (λ l. rw (length-take-le s.base.count store (omega arith)) (known-header s h o l, l))
    (λ l. let b = known-body s h o l in rw (length-take-le s.base.count store (omega arith)) b))

-- a known state stays known after any byte
pub known_next : (s : State) (store : List ℕ) (b : ℕ) → known_state s ≡ true → size ≤ length store
    → known_state (state_after s (on_byte (phase_of s store) b).0 (on_byte (phase_of s store) b).1) ≡ true
known_next s store b h room =
    let p = phase_of s store in
    sized_known (on_byte p b).0 (open_after (on_byte p b).1 s.base (length (held (on_byte p b).0))) (noise_after (on_byte p b).1 s.base.noise)
    (sized_next p b (known_sized s store h room))
