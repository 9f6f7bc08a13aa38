-- The shared state rule keeps a state with its phase.
use Rattle.std.proofs.Common.{◌≡◌, ℕ, ◌+◌, ◌%◌, ◌^◌, ◌<◌, ◌≤◌, Bool, true, false, cond, eqb, ltb, List, [], ◌∷◌, ◌++◌, length, refl, ap, arith, length-append, eq-eqb, ne_eqb, eqb-true, leb-true}
use mathlib.Core.Option.{Option, none, some}
use Rattle.runs.proofs.Cases.{by_eqb, by_ltb, and_both}
use Rattle.framing.specs.Segment.{Segment, noise_after}
use Rattle.framing.specs.State.{known_state, open_after, state_after, after_noise}
use Rattle.framing.specs.declared.State.{State}
use Rattle.framing.proofs.Segments.{wire_opt}

-- the state of a phase and a noise count, with the mode, the gathered bytes and the held wire bytes of each phase
abbrev pub state_of : {P : Type 0} → (P → ℕ) → (P → List ℕ) → (P → List ℕ) → P → ℕ → State
state_of mode_of gathered held p n = record { mode = mode_of p; count = length (gathered p); «open» = length (held p); noise = n }

-- the count of held bytes goes with them, where they are fewer than 2^32
pub open_next : {M : Type 0} (frame : M → List ℕ) (o : Option (Segment M)) (s : State) (h h' : List ℕ) (b : ℕ) → s.«open» ≡ length h
    → wire_opt frame o ++ h' ≡ h ++ (b ∷ []) → length h' < 2 ^ 32 → open_after o s (length h') ≡ length h'
open_next frame none s h h' b q e l = go (eqb s.mode 0)
  where
    go : (t : Bool) → cond t (length h') ((s.«open» + 1) % 2 ^ 32) ≡ length h'
    go true = refl
    go false = omega (arith, simp length-append at (ap length e))
open_next frame (some x) s h h' b q e l = refl

module _ {P M : Type 0} (frame : M → List ℕ) (mode_of : P → ℕ) (gathered held : P → List ℕ) where
  pub shared_next : (p q : P) (o : Option (Segment M)) (n b : ℕ) → wire_opt frame o ++ held q ≡ held p ++ (b ∷ []) → length (held q) < 2 ^ 32
      → state_after mode_of gathered held (state_of mode_of gathered held p n) q o ≡ state_of mode_of gathered held q (noise_after o n)
  shared_next p q o n b e l =
      λ i. record {
        mode = mode_of q;
        count = length (gathered q);
        «open» = open_next frame o (state_of mode_of gathered held p n) (held p) (held q) b refl e l i;
        noise = noise_after o n;
      }

  -- out of plain hunting, whatever stands in `open`
  pub shared_leaves : (s : State) (q : P) (o : Option (Segment M)) → s.mode ≡ 0
      → state_after mode_of gathered held s q o ≡ state_of mode_of gathered held q (noise_after o s.noise)
  shared_leaves s q none e = rw (eq-eqb s.mode 0 e)
  shared_leaves s q (some x) e = refl

-- a state that does not give 12 counts no more than the link's size
pub known_count : (modes hunting size : ℕ) (s : State) → known_state modes hunting size s ≡ true → s.count ≤ size
known_count modes hunting size s h =
    by_ltb (λ (t : Bool). t ≡ true → s.count ≤ size) s.mode hunting
    (λ _ e. let z = eqb-true s.count 0 e in omega arith) (λ _ e. leb-true s.count size e) (and_both (ltb s.mode modes) _ h).1

-- the count stays within the size, where no byte makes a phase gather more, and a state's phase has gathered no more than its count
module _ {P M : Type 0} (mode_of : P → ℕ) (gathered held : P → List ℕ) (phase_of : State → List ℕ → P) (on_byte : P → ℕ → P × Option (Segment M)) (size : ℕ)
    (within : (s : State) (store : List ℕ) → length (gathered (phase_of s store)) ≤ s.count)
    (next : (p : P) (b : ℕ) → length (gathered p) ≤ size → length (gathered (on_byte p b).0) ≤ size) where
  pub count_within : (s after : State) (store : List ℕ) (b : ℕ) → s.count ≤ size
      → after ≡ state_after mode_of gathered held s (on_byte (phase_of s store) b).0 (on_byte (phase_of s store) b).1 → after.count ≤ size
  count_within s after store b h e = rw e (next (phase_of s store) b (omega (arith, within s store)))

-- a count that goes round is the same, whether what is added goes round first or not
pub round_add : (a b : ℕ) → (a + b % 2 ^ 32) % 2 ^ 32 ≡ (a + b) % 2 ^ 32
round_add a b = omega arith

-- one byte of noise after another
module _ (s : State) (n : ℕ) (e : s.mode ≡ 0) where
  pub noise_mode : (after_noise s n).mode ≡ 0
  noise_mode = by_eqb (λ (x : State). x.mode ≡ 0) n 0 (λ _. e) (λ _. refl)

  pub noise_next : after_noise (after_noise s n) 1 ≡ after_noise s (n + 1)
  noise_next =
      rw (ne_eqb (n + 1) 0 (omega arith))
      (by_eqb (λ (x : State). hunted ((x.noise + 1) % 2 ^ 32) ≡ hunted ((s.noise + (n + 1)) % 2 ^ 32)) n 0
      (λ z. ap hunted (omega arith)) (λ _. ap hunted (omega arith)))
    where
      hunted : ℕ → State
      hunted k = record { mode = 0; count = 0; «open» = 0; noise = k }
