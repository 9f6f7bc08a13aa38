-- The DLE link is lawful.
use Prim.Native.Nat.{ℕ, ◌≤◌}
use mathlib.Core.Path.{◌≡◌, refl, ap}
use mathlib.Core.Bool.{true, false}
use mathlib.Core.List.{List}
use native.Mathlib.Omega.{arith}
use lib.ListN.{length, take}
use borrow.Author.Tests.{le-leb}
use Rattle.runs.proofs.Cases.{by_eqb}
use Rattle.framing.specs.declared.State.{State}
use Rattle.framing.proofs.States.{state_of, shared_next, shared_leaves}
use Rattle.framing.proofs.Lawful.{Lawful}
use Rattle.dle.specs.Frame.{frame}
use Rattle.dle.specs.Rules.{Phase, hunting, half, inside, size, gathered, held}
use Rattle.dle.specs.Contract.{mode_of, phase_of, link}
use Rattle.dle.proofs.Bytes.{frame_bytes}
use Rattle.dle.proofs.OnByte.{reached, takes}
use Rattle.dle.proofs.Readback.{reads-frame}

abbrev state_in : Phase → ℕ → State
state_in p n = state_of mode_of gathered held p n

known_of : (p : Phase) (n : ℕ) → length (gathered p) ≤ size → link.known (state_in p n) ≡ true
known_of hunting n h = refl
known_of half n h = refl
known_of (inside true g) n h = le-leb (length g) size h
known_of (inside false g) n h = le-leb (length g) size h

pub phase_of_lem : (p : Phase) (n : ℕ) (store : List ℕ) → take (length (gathered p)) store ≡ gathered p → phase_of (state_in p n) store ≡ p
phase_of_lem hunting n store h = refl
phase_of_lem half n store h = refl
phase_of_lem (inside true g) n store h = ap (inside true) h
phase_of_lem (inside false g) n store h = ap (inside false) h

-- only mode 0 is plain hunting
plain_mode : (s : State) (store : List ℕ) → phase_of s store ≡ hunting → s.mode ≡ 0
plain_mode s store =
    by_eqb P s.mode 0 (λ e _. e)
    (λ _. by_eqb P s.mode 1 (λ _ h. let z : ◌≡◌ {A = ℕ} 0 1 = cc in absurd (omega arith)) (λ _ h. let z : ◌≡◌ {A = ℕ} 0 1 = cc in absurd (omega arith)))
  where
    P : Phase → Type 0
    P p = p ≡ hunting → s.mode ≡ 0

pub lawful : Lawful link
lawful =
    record {
      reached = reached;
      takes = λ p b y h. takes p b h;
      state_of = state_in;
      noise_of_lem = λ p n. refl;
      open_of = λ p n. refl;
      known_of = known_of;
      phase_of_lem = λ p n store h. phase_of_lem p n store;
      fresh_first = refl;
      state_next = shared_next frame mode_of gathered held;
      state_leaves = λ s store q o e. shared_leaves frame mode_of gathered held s q o (plain_mode s store e);
      frame_bytes = frame_bytes;
      frame_filled = λ m. omega arith;
      reads-frame = λ m rest n t o. reads-frame m rest n o;
    }
