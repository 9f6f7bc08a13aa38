-- The expansion link is lawful, so that all claims hold of it.
use Prim.Native.Nat.{ℕ}
use mathlib.Core.Path.{◌≡◌, refl, ap}
use mathlib.Core.Bool.{true, false}
use mathlib.Core.List.{List, [], ◌∷◌}
use native.Mathlib.Omega.{arith}
use lib.Dec.{lit<}
use lib.ListN.{length, take}
use borrow.Author.Tests.{le-leb}
use Rattle.runs.specs.Runs.{Bytes}
use Rattle.runs.proofs.Bytes.{bytes_append, bytes_one}
use Rattle.runs.proofs.Cases.{by_eqb}
use Rattle.framing.specs.declared.State.{State}
use Rattle.framing.proofs.States.{state_of, shared_next, shared_leaves}
use Rattle.framing.proofs.Lawful.{Lawful}
use Rattle.escape.specs.Code.{hide}
use Rattle.escape.specs.Expansion.{expansion}
use Rattle.expansion.specs.Frame.{Message, Typed, frame}
use Rattle.expansion.specs.Rules.{Phase, hunting, inside, size, gathered, held}
use Rattle.expansion.specs.Contract.{mode_of, phase_of, link}
use Rattle.escape.proofs.ExpansionTheorems.{expansion_bytes}
use Rattle.expansion.proofs.Judge.{content, content_bytes}
use Rattle.expansion.proofs.OnByte.{Good, reached, takes}
use Rattle.expansion.proofs.Readback.{reads-frame}

-- the state of a phase is known, and stands for the phase
known_of : (p : Phase) (n : ℕ) → Good p → link.known (state_of mode_of gathered held p n) ≡ true
known_of hunting n h = refl
known_of (inside true g) n h = le-leb (length g) size h.1
known_of (inside false g) n h = le-leb (length g) size h.1

pub phase_of_lem : (p : Phase) (n : ℕ) (store : List ℕ) → take (length (gathered p)) store ≡ gathered p → phase_of (state_of mode_of gathered held p n) store ≡ p
phase_of_lem hunting n store h = refl
phase_of_lem (inside true g) n store h = ap (inside true) h
phase_of_lem (inside false g) n store h = ap (inside false) h

-- only mode 0 stands for hunting
hunts : (s : State) (store : List ℕ) → phase_of s store ≡ hunting → s.mode ≡ 0
hunts s store =
    by_eqb (λ (p : Phase). p ≡ hunting → s.mode ≡ 0) s.mode 0 (λ e _. e) (λ _ e. absurd (let z : ◌≡◌ {A = ℕ} 0 1 = cc in omega arith))

frame_bytes : (m : Message) → Typed m → Bytes (frame m)
frame_bytes m t =
    bytes_append (0xFD ∷ hide expansion (content m)) (0xFE ∷ [])
    (bytes_append (0xFD ∷ []) (hide expansion (content m)) (bytes_one 0xFD (lit< tt)) (expansion_bytes (content m) (content_bytes m t))) (bytes_one 0xFE (lit< tt))

pub lawful : Lawful link
lawful =
    record {
      reached = reached;
      takes = takes;
      state_of = state_of mode_of gathered held;
      noise_of_lem = λ p n. refl;
      open_of = λ p n. refl;
      known_of = known_of;
      phase_of_lem = λ p n store _ h. phase_of_lem p n store h;
      fresh_first = refl;
      state_next = shared_next frame mode_of gathered held;
      state_leaves = λ s store q o e. shared_leaves frame mode_of gathered held s q o (hunts s store e);
      frame_bytes = λ m t _. frame_bytes m t;
      frame_filled = λ m. omega arith;
      reads-frame = reads-frame;
    }
