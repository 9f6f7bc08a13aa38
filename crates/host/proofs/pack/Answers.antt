use Rattle.std.proofs.Common.{◌≡◌, ℕ, ◌+◌, ◌*◌, List, [], ◌∷◌, length, get_or, refl, arith}
use Rattle.runs.specs.Number.{little_endian}
use Rattle.host.specs.Read.{packed}
use Rattle.host.proofs.Packed.{bit}
use Rattle.host.proofs.pack.Goals as goal

-- the number of five bytes, one by one
five : (xs : List ℕ) → length xs ≡ 5
    → little_endian xs ≡ get_or xs 0 0 + 256 * (get_or xs 1 0 + 256 * (get_or xs 2 0 + 256 * (get_or xs 3 0 + 256 * get_or xs 4 0)))
unfolding little_endian
five [] h = absurd (omega arith)
five (a ∷ []) h = absurd (omega arith)
five (a ∷ b ∷ []) h = absurd (omega arith)
five (a ∷ b ∷ c ∷ []) h = absurd (omega arith)
five (a ∷ b ∷ c ∷ d ∷ []) h = absurd (omega arith)
five (a ∷ b ∷ c ∷ d ∷ e ∷ []) h = omega arith
five (a ∷ b ∷ c ∷ d ∷ e ∷ f ∷ xs) h = absurd (omega arith)

pub overflow_add-result-2 : goal.overflow_add-result-2
overflow_add-result-2 c = omega (arith, c.crc_bit.ensures, bit c.args.crc)

pub returns : goal.returns
unfolding packed
returns c = omega (arith, c.crc_bit.ensures, five c.args.fields (omega arith))
