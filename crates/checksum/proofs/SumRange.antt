-- The sum as it goes out.
use mathlib.Core.List.{List}
use Prim.Native.Nat.{ℕ, ◌≤◌}
use native.Mathlib.Omega.{arith}
use Rattle.runs.proofs.Cases.{by_eqb, by_ltb}
use Rattle.checksum.specs.Sum.{total_of, lowered, sum_of}

lowered_le : (bs : List ℕ) → lowered (total_of bs) ≤ 250
lowered_le bs = by_ltb (λ (x : ℕ). x ≤ 250) 250 (total_of bs) (λ h. omega arith) (λ h. h)

-- it lies in 1 to 250
pub sum_range : (bs : List ℕ) → (1 ≤ sum_of bs) × (sum_of bs ≤ 250)
sum_range bs =
    by_eqb (λ (x : ℕ). (1 ≤ x) × (x ≤ 250)) (lowered (total_of bs)) 0 (λ h. omega arith)
    (λ h. omega (arith, lowered_le bs))
