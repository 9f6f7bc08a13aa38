-- Bytes of a piece that are passed at once: noise, and bytes of an open frame.
use Prim.Native.Nat.{ℕ, ◌+◌, ◌-◌, ◌%◌, ◌^◌, ◌≤◌, ◌<◌}
use mathlib.Core.Path.{◌≡◌, ap, sym, ◌∙◌}
use mathlib.Core.Bool.{false}
use mathlib.Core.List.{List, [], ◌∷◌, ◌++◌}
use mathlib.Core.Option.{Option, none}
use native.Mathlib.Omega.{arith}
use lib.ListN.{length, take, drop, set}
use lib.Seq.{sets, length-take-le}
use borrow.Author.Tests.{lt-ltb, eq-eqb, ne_eqb}
use Rattle.runs.specs.Runs.{over, between, before}
use Rattle.runs.proofs.Before.{between-not}
use Rattle.runs.proofs.Run.{more_count, more-over}
use Rattle.framing.specs.Segment.{Segment, Event, event_of}
use Rattle.framing.specs.State.{after_noise, state_after}
use Rattle.framing.specs.Link.{Lent, step_on}
use Rattle.framing.specs.Passing.{Leads}
use Rattle.framing.proofs.Passing.{Gathers}
use Rattle.framing.specs.declared.State.{State}
use Rattle.framing.proofs.States.{noise_mode, noise_next}
use Rattle.framing.proofs.Passing.{leads_before, gathers_before}
use Rattle.pcs.specs.Frame.{Message}
use Rattle.pcs.specs.Rules.{Phase, inside, size, gathered, held, on_byte}
use Rattle.pcs.specs.Contract.{mode_of, front_of, link}

-- an open frame, by its counts
abbrev pub opened : ℕ → ℕ → ℕ → State
opened count held noise = record { mode = 1; count = count; «open» = held; noise = noise }

-- hunting, every byte but the start mark is noise
noise_step : (store : List ℕ) (s : State) (b : ℕ) → s.mode ≡ 0 → between 253 253 b ≡ false → step_on link (s, store) b ≡ ((after_noise s 1, store), none)
noise_step store s b e h = rw (eq-eqb s.mode 0 e, ne_eqb b 253 (λ i. between-not 253 253 b h (omega arith) (omega arith)))

pub leads_hunting : (piece : List ℕ) (s : State) (store : List ℕ) (i n : ℕ) → s.mode ≡ 0 → i ≤ length piece → n ≡ before 253 253 (take (length piece - i) (drop i piece))
    → Leads (step_on link) piece (s, store) i (after_noise s n, store) (i + n)
leads_hunting piece s store i n e h l =
    leads_before link piece 253 253 (after_noise s) store i n h (omega arith)
    (λ k b q. noise_step store (after_noise s k) b (noise_mode s k e) q ∙ ap (λ (x : State). ((x, store), none)) (noise_next s k e))

-- what a byte leaves and tells, by what the rules give
abbrev after : State → List ℕ → Phase × Option (Segment Message) → Lent link × Option (Event Message)
after s store r = ((state_after mode_of gathered held s r.0 r.1, over (front_of r) store), event_of r.1)

-- in an open frame, every byte but the marks is gathered
gather-step : (k o z b : ℕ) (store : List ℕ) → k < size → size ≤ length store → between 253 254 b ≡ false
    → step_on link (opened k o z, store) b ≡ ((opened (k + 1) ((o + 1) % 2 ^ 32) z, set store k b), none)
gather-step k o z b store less room h =
    let g : List ℕ = take k store in
    let not : (m : ℕ) → 253 ≤ m → m ≤ 254 → b ≡ m → ⊥ = λ m l t e. between-not 253 254 b h (omega arith) (omega arith) in
    let e : on_byte (inside g) b ≡ (inside (g ++ (b ∷ [])), none) =
    rw (ne_eqb b 253 (not 253 (omega arith) (omega arith)), ne_eqb b 254 (not 254 (omega arith) (omega arith)), lt-ltb (length g) size (omega (arith, length-take-le k store (omega arith)))) in
    ap (after (opened k o z) store) e
    ∙ (λ i. ((opened (more_count store k b (omega arith) i) ((o + 1) % 2 ^ 32) z, sym (more-over store k b (omega arith)) i), none))

pub gathers_plain : (piece store after : List ℕ) (k i n : ℕ) → size ≤ length store → k + n ≤ size → i ≤ length piece
    → n ≤ before 253 254 (take (length piece - i) (drop i piece)) → after ≡ sets store k (take n (take (length piece - i) (drop i piece)))
    → Gathers link opened piece store k i after (k + n) (i + n)
gathers_plain piece store after k i n room most h l e = gathers_before link piece opened 253 254 store after k i n room most h l e gather-step
