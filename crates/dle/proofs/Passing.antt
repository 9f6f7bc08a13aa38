-- Bytes of a piece that are passed at once: noise, and bytes of an open frame.
use Prim.Native.Nat.{ℕ, ◌+◌, ◌-◌, ◌%◌, ◌^◌, ◌≤◌, ◌<◌}
use mathlib.Core.Path.{◌≡◌, refl, ap, sym, ◌∙◌, subst}
use mathlib.Core.Bool.{true, false}
use mathlib.Core.List.{List, [], ◌∷◌, ◌++◌}
use mathlib.Core.Option.{Option, none}
use native.Mathlib.Omega.{arith}
use lib.ListN.{length, get_or, take, drop}
use borrow.Author.Tests.{eq-eqb, ne_eqb}
use Rattle.runs.specs.Runs.{over, between, before}
use Rattle.runs.proofs.Before.{between-not}
use Rattle.runs.proofs.Run.{same_over}
use Rattle.framing.specs.Segment.{Segment, Event, event_of}
use Rattle.framing.specs.State.{after_noise, state_after}
use Rattle.escape.specs.Dle.{dle}
use Rattle.escape.specs.Enclosed.{passed}
use Rattle.escape.proofs.Passing.{Gathering, gathered_long, gathered_room, gathered-one, passed_leads}
use Rattle.framing.specs.Link.{Lent, step_on}
use Rattle.framing.specs.Passing.{Leads}
use Rattle.framing.specs.Open.{Room}
use Rattle.framing.specs.declared.State.{State}
use Rattle.framing.specs.declared.Reached.{Reached}
use Rattle.framing.proofs.States.{noise_mode, noise_next}
use Rattle.framing.proofs.Passing.{leads_then, leads_byte, leads_before}
use Rattle.dle.specs.Frame.{Message}
use Rattle.dle.specs.Rules.{Phase, inside, size, gathered, held, on_byte}
use Rattle.dle.specs.Contract.{mode_of, link}
use Rattle.dle.specs.Steps.{Passes}

-- an open frame with no 10 waiting, by its counts
abbrev pub opened : ℕ → ℕ → ℕ → State
opened count held noise = record { mode = 2; count = count; «open» = held; noise = noise }

-- hunting, every byte but 10 is noise
noise_step : (store : List ℕ) (s : State) (b : ℕ) → s.mode ≡ 0 → between 0x10 0x10 b ≡ false → step_on link (s, store) b ≡ ((after_noise s 1, store), none)
noise_step store s b e h = rw (eq-eqb s.mode 0 e, ne_eqb b 0x10 (λ i. between-not 0x10 0x10 b h (omega arith) (omega arith)))

pub leads_hunting : (piece : List ℕ) (s : State) (store : List ℕ) (i n : ℕ) → s.mode ≡ 0 → i ≤ length piece → n ≡ before 0x10 0x10 (take (length piece - i) (drop i piece))
    → Leads (step_on link) piece (s, store) i (after_noise s n, store) (i + n)
leads_hunting piece s store i n e h l =
    leads_before link piece 0x10 0x10 (after_noise s) store i n h (omega arith)
    (λ k b q. noise_step store (after_noise s k) b (noise_mode s k e) q ∙ ap (λ (x : State). ((x, store), none)) (noise_next s k e))

-- hunting, 10 02 opens a frame
pub leads_start : (piece : List ℕ) (s : State) (store : List ℕ) (i : ℕ) → s.mode ≡ 0 → i + 1 < length piece → get_or piece i 0 ≡ 0x10 → get_or piece (i + 1) 0 ≡ 0x02
    → Leads (step_on link) piece (s, store) i (opened 0 2 s.noise, store) (i + 2)
leads_start piece s store i m h e f =
    let half : Lent link = (record { mode = 1; count = 0; «open» = 1; noise = s.noise }, store) in
    let first : step_on link (s, store) (get_or piece i 0) ≡ (half, none) = rw (e, eq-eqb s.mode 0 m) (rw (eq-eqb s.mode 0 m)) in
    let second : step_on link half (get_or piece (i + 1) 0) ≡ ((opened 0 2 s.noise, store), none) = rw f in
    let next : i + 1 + 1 ≡ i + 2 = omega arith in
    subst (Leads (step_on link) piece (s, store) i (opened 0 2 s.noise, store)) next
    (leads_then link piece (leads_byte link piece (s, store) half i (omega arith) refl first) (leads_byte link piece half (opened 0 2 s.noise, store) (i + 1) h refl second))

-- an open frame with a 10 waiting
abbrev waiting : ℕ → ℕ → ℕ → State
waiting count held noise = record { mode = 3; count = count; «open» = held; noise = noise }

-- what a byte leaves and tells, by what the rules give
abbrev after : State → List ℕ → Phase × Option (Segment Message) → Lent link × Option (Event Message)
after s store r = ((state_after mode_of gathered held s r.0 r.1, over (gathered r.0) store), event_of r.1)

-- in an open frame with no 10 waiting or with one, by what the code says of a byte
pub rules : Gathering link dle opened waiting
rules = record {
  half = λ k o z b store most room e.
      let t : on_byte (inside false (take k store)) b ≡ (inside true (take k store), none) = rw e in
      ap (after (opened k o z) store) t
      ∙ (λ i. ((waiting (gathered_long size k store room most i) ((o + 1) % 2 ^ 32) z, sym (same_over store k (omega arith)) i), none));
  whole = λ k o z b v store less room e.
      let t : on_byte (inside false (take k store)) b ≡ (inside false (take k store ++ (v ∷ [])), none) = rw e (rw (gathered_room size k store room less)) in
      ap (after (opened k o z) store) t ∙ gathered-one size k store room (λ n. opened n ((o + 1) % 2 ^ 32) z) v less;
  second = λ k o z b v store less room e.
      let t : on_byte (inside true (take k store)) b ≡ (inside false (take k store ++ (v ∷ [])), none) = rw e (rw (gathered_room size k store room less)) in
      ap (after (waiting k o z) store) t ∙ gathered-one size k store room (λ n. opened n ((o + 1) % 2 ^ 32) z) v less;
}

-- the bytes of an open frame with no 10 waiting, as far as they come whole
pub passes : (piece store after : List ℕ) (s : State) (i : ℕ) (r : Reached State) → s.mode ≡ 2 → s.«open» < 2 ^ 32
    → Room size s store → i ≤ length piece → (r, after) ≡ passed dle size s store piece i → Passes piece (s, store) i r after
passes piece store after s i r mode fits room h e =
    let p = passed_leads link (λ (x : State). x) rules piece store after s i r mode fits room h e in
    record { leads = p.0; count = p.1 }
