use Rattle.std.proofs.Common.{ℕ, ◌≡◌, ◌+◌, ◌%◌, ◌^◌, ap, ◌∙◌, bit_and, arith}
use Rattle.std.proofs.Math.Nat.{mod-eq_of_lt}
use Rattle.std.proofs.lemmas.Nat.{and_mask}
use Rattle.record.specs.Form.{bytes_in}
use Rattle.record.specs.declared.form.Size.{Size}
use Rattle.record.specs.declared.form.Size.TheVariants.{One, Two, Four}
use Rattle.record.proofs.fare.Fare.from_number.Goals as goal

-- the low bytes of a number
low_bytes : (s : Size) (n t : ℕ) → t + 1 ≡ 256 ^ bytes_in s → bit_and n t ≡ n % 256 ^ bytes_in s
low_bytes One n t e = ap (bit_and n) (omega arith) ∙ and_mask n 8
low_bytes Two n t e = ap (bit_and n) (omega arith) ∙ and_mask n 16
low_bytes Four n t e = ap (bit_and n) (omega arith) ∙ and_mask n 32

-- Asked is only that the mask is the largest number of the size and what is masked is the number, however they are worked out: edits are refused
-- by these equations.
pub returns-clause-low : goal.returns-clause-low
returns-clause-low g c =
    c.from_number_at.ensures
    ∙ ap (g.Self.Fare.fares.fare_of (bytes_in c.args.size))
    (low_bytes c.args.size _ _ (grind (arith, c.top.ensures)) ∙ ap (λ (n : ℕ). n % 256 ^ bytes_in c.args.size) (grind arith))

pub returns-clause-held : goal.returns-clause-held
returns-clause-held g c = λ h. returns-clause-low g c ∙ ap (g.Self.Fare.fares.fare_of (bytes_in c.args.size)) (mod-eq_of_lt h)
