-- A receiver inside a frame, over any lawful code: hidden bytes are gathered as what they stand for, without an event.
use Prim.Native.Nat.{ℕ, ◌+◌, ◌≤◌, ◌<◌}
use mathlib.Core.Path.{◌≡◌}
use mathlib.Core.Bool.{Bool, true, false}
use mathlib.Core.List.{List, [], ◌∷◌, ◌++◌, append-nil}
use mathlib.Core.Option.{Option, none}
use native.Mathlib.Omega.{arith}
use lib.ListN.{length, length-append}
use lib.Seq.{append_snoc}
use Rattle.runs.specs.Runs.{each}
use Rattle.framing.specs.Segment.{Segment}
use Rattle.framing.proofs.Feed.{Quiet, quiet_nil, quiet_cons, quiet_append}
use Rattle.framing.proofs.Segments.{step, step_open}
use Rattle.framing.proofs.Lawful.{at}
use Rattle.escape.specs.Code.{Code, byte, waits, meaning, hide}
use Rattle.escape.specs.Lawful.{Coded, alone, pair, Lawful}

-- inside a frame, half an escape waits, and a completed byte is gathered where there is room
module _ {P M : Type 0} (code : Code) (lawful : Lawful code) (on_byte : P → ℕ → P × Option (Segment M)) (inside : Bool → List ℕ → P) (size : ℕ)
    (half : (g : List ℕ) (w : ℕ) → code.plain w ≡ waits → on_byte (inside false g) w ≡ (inside true g, none))
    (whole : (waiting : Bool) (g : List ℕ) (w b : ℕ) → length g < size → meaning code waiting w ≡ byte b → on_byte (inside waiting g) w ≡ (inside false (g ++ (b ∷ [])), none)) where
  -- wire bytes that lead from what was gathered to what is, without an event
  abbrev Gathers : List ℕ → ℕ → List ℕ → List ℕ → Type 0
  Gathers g n wire h = Quiet (step on_byte) (at (inside false g) n) wire (at (inside false h) n)

  gathers_byte : (g : List ℕ) (n b : ℕ) (run : List ℕ) → length g < size → Coded code b run → Gathers g n run (g ++ (b ∷ []))
  gathers_byte g n b _ l (alone p) =
      quiet_cons (step on_byte) (step_open on_byte (inside false g) (inside false (g ++ (b ∷ []))) n b (whole false g b b l p)) (quiet_nil (step on_byte) _)
  gathers_byte g n b _ l (pair e x p a) =
      quiet_cons (step on_byte) (step_open on_byte (inside false g) (inside true g) n e (half g e p))
      (quiet_cons (step on_byte) (step_open on_byte (inside true g) (inside false (g ++ (b ∷ []))) n x (whole true g x b l a)) (quiet_nil (step on_byte) _))

  pub gathers : (g xs : List ℕ) (n : ℕ) → length g + length xs ≤ size → Gathers g n (hide code xs) (g ++ xs)
  unfolding each
  gathers g [] n h = rw append-nil (quiet_nil (step on_byte) (at (inside false g) n))
  gathers g (x ∷ xs) n h =
      quiet_append (step on_byte) (code.hide_byte x) (gathers_byte g n x (code.hide_byte x) (omega arith) (lawful.coded x))
      (rw append_snoc at (gathers (g ++ (x ∷ [])) xs n (simp length-append (omega arith))))
