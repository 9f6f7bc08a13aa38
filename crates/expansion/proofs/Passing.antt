-- Bytes of a piece that are passed at once: noise, and bytes of an open frame.
use Prim.Native.Nat.{ℕ, ◌+◌, ◌-◌, ◌%◌, ◌^◌, ◌≤◌, ◌<◌}
use mathlib.Core.Path.{◌≡◌, ap, sym, ◌∙◌}
use mathlib.Core.Bool.{true, false}
use mathlib.Core.List.{List, [], ◌∷◌, ◌++◌}
use mathlib.Core.Option.{Option, none}
use native.Mathlib.Omega.{arith}
use lib.ListN.{length, take, drop}
use borrow.Author.Tests.{eq-eqb, ne_eqb}
use Rattle.runs.specs.Runs.{over, between, before}
use Rattle.runs.proofs.Before.{between-not}
use Rattle.runs.proofs.Run.{same_over}
use Rattle.escape.specs.Expansion.{expansion}
use Rattle.framing.specs.Segment.{Segment, Event, event_of}
use Rattle.framing.specs.State.{after_noise, state_after}
use Rattle.escape.specs.Enclosed.{passed}
use Rattle.escape.proofs.Passing.{Gathering, gathered_long, gathered_room, gathered-one, passed_leads}
use Rattle.framing.specs.Link.{Lent, step_on}
use Rattle.framing.specs.Passing.{Leads}
use Rattle.framing.specs.Open.{Room}
use Rattle.framing.specs.declared.State.{State}
use Rattle.framing.specs.declared.Reached.{Reached}
use Rattle.framing.proofs.States.{noise_mode, noise_next}
use Rattle.framing.proofs.Passing.{leads_before}
use Rattle.expansion.specs.Frame.{Message}
use Rattle.expansion.specs.Rules.{Phase, inside, size, gathered, held, on_byte}
use Rattle.expansion.specs.Contract.{mode_of, link}

-- an open frame with no FF waiting, by its counts
abbrev pub opened : ℕ → ℕ → ℕ → State
opened count held noise = record { mode = 1; count = count; «open» = held; noise = noise }

-- hunting, every byte but FD is noise
noise_step : (store : List ℕ) (s : State) (b : ℕ) → s.mode ≡ 0 → between 0xFD 0xFD b ≡ false → step_on link (s, store) b ≡ ((after_noise s 1, store), none)
noise_step store s b e h = rw (eq-eqb s.mode 0 e, ne_eqb b 0xFD (λ i. between-not 0xFD 0xFD b h (omega arith) (omega arith)))

pub leads_hunting : (piece : List ℕ) (s : State) (store : List ℕ) (i n : ℕ) → s.mode ≡ 0 → i ≤ length piece → n ≡ before 0xFD 0xFD (take (length piece - i) (drop i piece))
    → Leads (step_on link) piece (s, store) i (after_noise s n, store) (i + n)
leads_hunting piece s store i n e h l =
    leads_before link piece 0xFD 0xFD (after_noise s) store i n h (omega arith)
    (λ k b q. noise_step store (after_noise s k) b (noise_mode s k e) q ∙ ap (λ (x : State). ((x, store), none)) (noise_next s k e))

-- an open frame with an FF waiting
abbrev waiting : ℕ → ℕ → ℕ → State
waiting count held noise = record { mode = 2; count = count; «open» = held; noise = noise }

-- what a byte leaves and tells, by what the rules give
abbrev after : State → List ℕ → Phase × Option (Segment Message) → Lent link × Option (Event Message)
after s store r = ((state_after mode_of gathered held s r.0 r.1, over (gathered r.0) store), event_of r.1)

-- in an open frame with no FF waiting or with one, by what the code says of a byte
pub rules : Gathering link expansion opened waiting
rules = record {
  half = λ k o z b store most room e.
      let t : on_byte (inside false (take k store)) b ≡ (inside true (take k store), none) = rw e in
      ap (after (opened k o z) store) t
      ∙ (λ i. ((waiting (gathered_long size k store room most i) ((o + 1) % 2 ^ 32) z, sym (same_over store k (omega arith)) i), none));
  whole = λ k o z b v store less room e.
      let t : on_byte (inside false (take k store)) b ≡ (inside false (take k store ++ (v ∷ [])), none) = rw e (rw (gathered_room size k store room less)) in
      ap (after (opened k o z) store) t ∙ gathered-one size k store room (λ n. opened n ((o + 1) % 2 ^ 32) z) v less;
  second = λ k o z b v store less room e.
      let t : on_byte (inside true (take k store)) b ≡ (inside false (take k store ++ (v ∷ [])), none) = rw e (rw (gathered_room size k store room less)) in
      ap (after (waiting k o z) store) t ∙ gathered-one size k store room (λ n. opened n ((o + 1) % 2 ^ 32) z) v less;
}

-- the bytes of an open frame with no FF waiting, as far as they come whole
pub passes : (piece store after : List ℕ) (s : State) (i : ℕ) (r : Reached State) → s.mode ≡ 1 → s.«open» < 2 ^ 32
    → Room size s store → i ≤ length piece → (r, after) ≡ passed expansion size s store piece i → Leads (step_on link) piece (s, store) i (r.state, after) r.next × Room size r.state after
passes piece store after s i r mode fits room h e =
    let p = passed_leads link (λ (x : State). x) rules piece store after s i r mode fits room h e in
    (p.0, record { count = p.1; room = omega (arith, p.2, room.room) })
