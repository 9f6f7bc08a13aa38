-- PCS is a lawful link: all claims on its streams and calls follow.
use Prim.Native.Nat.{ℕ, ◌≤◌}
use mathlib.Core.Path.{◌≡◌, refl, ap}
use mathlib.Core.Bool.{true}
use mathlib.Core.List.{List}
use native.Mathlib.Omega.{arith}
use lib.ListN.{length, take}
use borrow.Author.Tests.{le-leb}
use Rattle.runs.proofs.Cases.{by_eqb}
use Rattle.framing.specs.declared.State.{State}
use Rattle.framing.proofs.States.{state_of, shared_next, shared_leaves}
use Rattle.framing.proofs.Lawful.{Lawful}
use Rattle.pcs.specs.Frame.{frame}
use Rattle.pcs.specs.Rules.{Phase, hunting, inside, size, gathered, held}
use Rattle.pcs.specs.Contract.{mode_of, phase_of, link}
use Rattle.pcs.proofs.OnByte.{reached, takes}
use Rattle.pcs.proofs.Readback.{frame_bytes, reads-frame}

known_of : (p : Phase) (n : ℕ) → length (gathered p) ≤ size → link.known (state_of mode_of gathered held p n) ≡ true
known_of hunting n h = refl
known_of (inside g) n h = le-leb (length g) size h

pub phase_of_lem : (p : Phase) (n : ℕ) (store : List ℕ) → take (length (gathered p)) store ≡ gathered p → phase_of (state_of mode_of gathered held p n) store ≡ p
phase_of_lem hunting n store h = refl
phase_of_lem (inside x) n store h = ap inside h

-- only mode 0 stands for hunting
hunting_mode : (s : State) (store : List ℕ) → phase_of s store ≡ hunting → s.mode ≡ 0
hunting_mode s store =
    by_eqb (λ (p : Phase). p ≡ hunting → s.mode ≡ 0) s.mode 0 (λ e _. e) (λ _ e. absurd (let z : ◌≡◌ {A = ℕ} 0 1 = cc in omega arith))

pub lawful : Lawful link
lawful =
    record {
      reached = reached;
      takes = λ p b y h. takes p b h;
      state_of = state_of mode_of gathered held;
      noise_of_lem = λ p n. refl;
      open_of = λ p n. refl;
      known_of = known_of;
      phase_of_lem = λ p n store g. phase_of_lem p n store;
      fresh_first = refl;
      state_next = shared_next frame mode_of gathered held;
      state_leaves = λ s store q o e. shared_leaves frame mode_of gathered held s q o (hunting_mode s store e);
      frame_bytes = frame_bytes;
      frame_filled = λ m. omega arith;
      reads-frame = reads-frame;
    }
