-- Bytes of a piece that are passed at once: noise, and the bytes of a body, all but the last of the frame.
use Rattle.std.proofs.Common.{◌≡◌, ℕ, ◌+◌, ◌-◌, ◌%◌, ◌^◌, ◌<◌, ◌≤◌, Bool, true, false, cond, eqb, List, [], ◌∷◌, ◌++◌, length, take, drop, set, sym, refl, ap, ◌∙◌, subst, arith, le-ltb, eq-eqb, ne_eqb}
use mathlib.Core.Option.{Option, none}
use lib.Seq.{sets}
use Rattle.runs.specs.Runs.{over, between, before}
use Rattle.runs.proofs.Cases.{by_eqb}
use Rattle.runs.proofs.Before.{between-not}
use Rattle.runs.proofs.Bytes.{part_rest}
use Rattle.runs.proofs.Run.{more_count, more-over}
use Rattle.framing.specs.Segment.{Segment, event_of}
use Rattle.framing.specs.State.{after_noise, hunted_from}
use Rattle.framing.specs.Link.{step_on}
use Rattle.framing.specs.Passing.{Leads}
use Rattle.framing.proofs.Passing.{Gathers}
use Rattle.framing.specs.declared.State as Base
use Rattle.framing.specs.declared.Reached.{Reached}
use Rattle.framing.proofs.States.{noise_mode, noise_next}
use Rattle.framing.proofs.Passing.{leads_before, gathers_run, gathers_leads}
use Rattle.mdu.specs.Frame.{Message}
use Rattle.mdu.specs.Rules.{Phase, in_body, size, on_byte}
use Rattle.mdu.specs.Contract.{known_state, state_after, link}
use Rattle.mdu.specs.Steps.{ToCome, AtLast, Passes}
use Rattle.mdu.specs.declared.State.{State}
use Rattle.mdu.proofs.Known.{body_state, body-known, known_open}
use Rattle.mdu.proofs.Store.{body_goes_on}

-- n bytes of noise in plain hunting; a first one clears what stands in `length`
abbrev hunted : State → ℕ → State
hunted s n = record { base = after_noise s.base n; length = cond (eqb n 0) s.length 0 }

-- every byte but E3 is noise
noise_step : (s : State) (store : List ℕ) (b : ℕ) → s.base.mode ≡ 0 → between 0xE3 0xE3 b ≡ false
    → step_on link (s, store) b ≡ ((record { base = after_noise s.base 1; length = 0 }, store), none)
noise_step s store b e h = rw (eq-eqb s.base.mode 0 e, ne_eqb b 0xE3 (λ i. between-not 0xE3 0xE3 b h (omega arith) (omega arith)))

leads_hunting : (piece : List ℕ) (s : State) (store : List ℕ) (i n : ℕ) → s.base.mode ≡ 0 → i ≤ length piece
    → n ≡ before 0xE3 0xE3 (take (length piece - i) (drop i piece)) → Leads (step_on link) piece (s, store) i (hunted s n, store) (i + n)
leads_hunting piece s store i n e h l =
    leads_before link piece 0xE3 0xE3 (hunted s) store i n h (omega arith)
    (λ k b q.
    let cleared : 0 ≡ cond (eqb (k + 1) 0) s.length 0 = rw (ne_eqb (k + 1) 0 (omega arith)) in
    noise_step (hunted s k) store b (noise_mode s.base k e) q ∙ (λ j. ((record { base = noise_next s.base k e j; length = cleared j }, store), none)))

module _ (s : State) (known : known_state s ≡ true) (e : s.base.mode ≡ 0) where
  known_hunted : (n : ℕ) → known_state (hunted s n) ≡ true
  known_hunted n = go (eqb n 0)
    where
      after : Base.State
      after = record { mode = 0; count = 0; «open» = 0; noise = (s.base.noise + n) % 2 ^ 32 }

      go : (t : Bool) → known_state (record { base = cond t s.base after; length = cond t s.length 0 }) ≡ true
      go true = known
      go false = refl

  -- the noise of a piece from place i on, as the shared state passes it
  pub passes_noise : (piece : List ℕ) (i : ℕ) → i ≤ length piece → (b : Reached Base.State) → b ≡ hunted_from s.base piece i 0xE3
      → (l : ℕ) → l ≡ cond (eqb b.next i) s.length 0 → (store : List ℕ)
      → Passes piece (s, store) i (record { state = record { base = b.state; length = l }; next = b.next }) store
  passes_noise piece i h b f l g store =
      record {
        leads = subst (λ (x : Reached State). Leads (step_on link) piece (s, store) i (x.state, store) x.next) (sym is)
            (leads_hunting piece s store i n e h (ap (before 0xE3 0xE3) (sym (part_rest piece i))));
        known = ap (λ (x : Reached State). known_state x.state) is ∙ known_hunted n;
        at_last = subst (λ (x : Reached State). x.next < length piece → AtLast x.state) (sym is)
            (λ _ low. absurd (known_open (hunted s n) (known_hunted n) (omega (arith, low)) (noise_mode s.base n e)));
      }
    where
      n : ℕ
      n = before 0xE3 0xE3 (drop i piece)

      cleared : (k : ℕ) → cond (eqb (i + k) i) s.length 0 ≡ cond (eqb k 0) s.length 0
      cleared k =
          by_eqb (λ (x : ℕ). cond (eqb (i + k) i) s.length 0 ≡ x) k 0
          (λ z. rw (eq-eqb (i + k) i (omega arith))) (λ o. rw (ne_eqb (i + k) i (λ z. o (omega arith))))

      is : ◌≡◌ {A = Reached State} (record { state = record { base = b.state; length = l }; next = b.next }) (record { state = hunted s n; next = i + n })
      is =
          let k = g ∙ ap (λ (x : Reached Base.State). cond (eqb x.next i) s.length 0) f ∙ cleared n in
          λ j. record { state = record { base = (f j).state; length = k j }; next = (f j).next }

module _ (k : ℕ) where
  abbrev body : ℕ → ℕ → ℕ → State
  body at o z = body_state at o z k

  body-step : (at o z : ℕ) (store : List ℕ) (b : ℕ) → 6 ≤ at → at < 7 + k → at < length store
      → step_on link (body at o z, store) b ≡ ((body (at + 1) ((o + 1) % 2 ^ 32) z, set store at b), none)
  body-step at o z store b low high room =
      let e : on_byte (in_body k (take at store)) b ≡ (in_body k (take at store ++ (b ∷ [])), none) = body_goes_on store at b room k (omega arith) in
      rw (le-ltb at 6 low)
      (ap (λ (r : Phase × Option (Segment Message)). ((state_after (body at o z) r.0 r.1, over (take at store ++ (b ∷ [])) store), event_of r.1)) e
      ∙ (λ i. ((body (more_count store at b (omega arith) i) ((o + 1) % 2 ^ 32) z, sym (more-over store at b room) i), none)))

-- n bytes of a piece from place i on, passed by a state in a body
pub passes_body : (piece store store' : List ℕ) (s r : State) (i n : ℕ) → s.base.mode ≡ 1 → ToCome s.length s.base.count → size ≤ length store
    → s.base.«open» < 2 ^ 32 → i + n ≤ length piece → s.base.count + n ≤ 7 + s.length
    → (i + n < length piece → 7 + s.length ≤ s.base.count + n)
    → r ≡ body_state (s.base.count + n) ((s.base.«open» + n) % 2 ^ 32) s.base.noise s.length → store' ≡ sets store s.base.count (take n (drop i piece))
    → Passes piece (s, store) i (record { state = r; next = i + n }) store'
passes_body piece store store' s r i n m h room o within most stops e f =
    record {
      leads = gathers_leads link piece (body s.length) s r store store' at s.base.«open» z i (at + n) (i + n) o
          (λ j. record { base = record { mode = m j; count = at; «open» = s.base.«open»; noise = z }; length = s.length })
          (e ∙ (λ j. body s.length (at + n) (held j) z))
          (subst (λ (x : List ℕ). Gathers link (body s.length) piece store at i x (at + n) (i + n)) (sym f)
          (gathers_run link piece (body s.length) store at i n within (omega (arith, h.most))
          (λ k o z x less same. body-step s.length (at + k) o z x _ (omega (arith, h.low)) (omega arith) (omega (arith, h.most)))));
      known = ap known_state e ∙ body-known (at + n) ((s.base.«open» + n) % 2 ^ 32) z s.length
          (record { allowed = h.allowed; low = omega (arith, h.low); high = omega arith; most = h.most });
      at_last = λ l _. rw e (omega (arith, stops l));
    }
  where
    at : ℕ
    at = s.base.count

    z : ℕ
    z = s.base.noise

    held : (s.base.«open» + n) % 2 ^ 32 ≡ (s.base.«open» + (i + n - i)) % 2 ^ 32
    held = omega arith
