-- The header sum is the total of the first five bytes.
use Rattle.std.proofs.Common.{◌≡◌, ℕ, List, [], ◌∷◌, length, take, arith, lit<, get_or-take}
use mathlib.Core.List.{sum}
use Rattle.runs.specs.Total.{total_from}
use Rattle.mdu.specs.Frame.{header_sum}

pub sum_is : (g : List ℕ) → length g ≡ 5 → total_from 0 g ≡ header_sum g
unfolding sum
sum_is [] h = absurd (omega arith)
sum_is (a ∷ []) h = absurd (omega arith)
sum_is (a ∷ b ∷ []) h = absurd (omega arith)
sum_is (a ∷ b ∷ c ∷ []) h = absurd (omega arith)
sum_is (a ∷ b ∷ c ∷ d ∷ []) h = absurd (omega arith)
sum_is (a ∷ b ∷ c ∷ d ∷ e ∷ []) h = omega arith
sum_is (a ∷ b ∷ c ∷ d ∷ e ∷ f ∷ g) h = absurd (omega arith)

pub sum_first : (g : List ℕ) → header_sum (take 5 g) ≡ header_sum g
sum_first g =
    rw (get_or-take 5 g 0 0 (lit< tt), get_or-take 5 g 1 0 (lit< tt), get_or-take 5 g 2 0 (lit< tt), get_or-take 5 g 3 0 (lit< tt), get_or-take 5 g 4 0 (lit< tt))
