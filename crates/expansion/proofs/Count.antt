-- The count of gathered bytes stays within the link's size, for every state that does not give 12, whatever its store holds.
use Prim.Native.Nat.{ℕ, ◌≤◌}
use mathlib.Core.List.{List, [], ◌∷◌, ◌++◌}
use mathlib.Core.Option.{Option}
use native.Mathlib.Omega.{arith}
use lib.ListN.{length, length-append, length-take}
use Rattle.runs.proofs.Cases.{by_eqb, by_ltb}
use Rattle.framing.specs.Segment.{Segment}
use Rattle.framing.specs.declared.State.{State}
use Rattle.escape.specs.Code.{Meaning, byte, waits, start, end, wrong, meaning}
use Rattle.escape.specs.Expansion.{expansion}
use Rattle.expansion.specs.Frame.{Message}
use Rattle.expansion.specs.Rules.{Phase, hunting, inside, size, gathered, held, act, on_byte}
use Rattle.expansion.specs.Contract.{phase_of}

abbrev Sized : Phase × Option (Segment Message) → Type 0
Sized r = length (gathered r.0) ≤ size

act_sized : (g before wire : List ℕ) (m : Meaning) → length g ≤ size → Sized (act g before wire m)
act_sized g before wire (byte b) h = by_ltb Sized (length g) size (λ l. simp length-append (omega arith)) (λ _. omega arith)
act_sized g before wire waits h = h
act_sized g before wire start h = omega arith
act_sized g before wire end h = omega arith
act_sized g before wire wrong h = omega arith

pub byte_sized : (p : Phase) (b : ℕ) → length (gathered p) ≤ size → Sized (on_byte p b)
byte_sized hunting b h = by_eqb Sized b 0xFD (λ _. omega arith) (λ _. omega arith)
byte_sized (inside w g) b h = act_sized g (held (inside w g)) (held (inside w g) ++ (b ∷ [])) (meaning expansion w b) h

pub counted : (s : State) (store : List ℕ) → length (gathered (phase_of s store)) ≤ s.count
counted s store =
    by_eqb (λ (p : Phase). length (gathered p) ≤ s.count) s.mode 0 (λ _. omega arith) (λ _. simp length-take (omega arith))
