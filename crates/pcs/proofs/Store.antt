-- The store after a byte: what is gathered in front, and the rest as it was.
use Prim.Native.Nat.{ℕ, ◌+◌, ◌-◌, ◌≤◌}
use mathlib.Core.Path.{◌≡◌, ap, ◌∙◌}
use mathlib.Core.List.{List}
use native.Mathlib.Omega.{arith}
use lib.ListN.{length, take, drop, length-take}
use lib.Seq.{length-take-le, take-add, drop_at, take-take}
use Rattle.runs.proofs.Cases.{by_eqb}
use Rattle.framing.specs.declared.State.{State}
use Rattle.pcs.specs.Frame.{trailing}
use Rattle.pcs.specs.Rules.{Phase, gathered, has_crc, packed_part}
use Rattle.pcs.specs.Contract.{phase_of}
use Rattle.pcs.proofs.Passed.{packed-length}

-- the n packed bytes of the first so many of a store stand behind the header of 8
pub packed-at : (store : List ℕ) (at n : ℕ) → n ≡ length (packed_part (take at store)) → 8 + trailing (has_crc (take at store)) ≤ at → at ≤ length store
    → packed_part (take at store) ≡ take n (drop 8 store)
packed-at store at n e l h =
    let k : length (take at store) - trailing (has_crc (take at store)) ≡ 8 + n = omega (arith, e ∙ packed-length (take at store), length-take-le at store h) in
    ap (λ (m : ℕ). drop 8 (take m (take at store))) k
    ∙ ap (drop 8) (take-take (8 + n) at store (omega (arith, length-take-le at store h)) ∙ take-add 8 n store)
    ∙ drop_at (take 8 store) (take n (drop 8 store)) 8 (length-take-le 8 store (omega arith))

-- a state has gathered no more than its count
pub counted : (s : State) (store : List ℕ) → length (gathered (phase_of s store)) ≤ s.count
counted s store =
    by_eqb (λ (p : Phase). length (gathered p) ≤ s.count) s.mode 0 (λ _. omega arith) (λ _. simp length-take (omega arith))
