-- Totals carried on.
use Rattle.std.proofs.Common.{◌≡◌, ℕ, ◌+◌, ◌%◌, ◌<◌, fold, List, [], ◌∷◌, ◌++◌, add_assoc, zero-add, arith}
use mathlib.Core.List.{sum, sum-append}
use Rattle.runs.specs.Total.{total_from}

-- the total of two runs, one after the other, is that of the second carried on from that of the first
pub total_append : (s : ℕ) (xs ys : List ℕ) → total_from s (xs ++ ys) ≡ total_from (total_from s xs) ys
total_append s xs ys = omega (arith, sum-append ◌+◌ 0 zero-add add_assoc xs ys)

-- one byte more
pub total_next : (s b : ℕ) (bs : List ℕ) → total_from s (b ∷ bs) ≡ total_from ((s + b) % 256) bs
unfolding sum
total_next s b bs = omega arith

pub total_one : (s b : ℕ) → total_from s (b ∷ []) ≡ (s + b) % 256
unfolding sum
total_one s b = omega arith

-- one byte after the other, each sum modulo 256
pub total_fold : (s : ℕ) (bs : List ℕ) → s < 256 → fold (λ t b. (t + b) % 256) s bs ≡ total_from s bs
unfolding sum
total_fold s [] h = omega arith
total_fold s (b ∷ bs) h = omega (arith, total_fold ((s + b) % 256) bs (omega arith))
