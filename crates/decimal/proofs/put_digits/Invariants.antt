use Rattle.std.proofs.Common.{◌≡◌, ◌-◌}
use lib.Seq.{sets}
use Rattle.decimal.specs.Decimal.{decimal}
use Rattle.decimal.proofs.Decimal.{low_digits}
use Rattle.decimal.proofs.put_digits.Given as goal

-- with the place - at low digits of rest stored from at on, out has all digits of n
abbrev pub invariant-loop-place : goal.invariant-loop-place
invariant-loop-place l = sets l.out l.at (low_digits (l.place - l.at) l.rest) ≡ sets l.initial.out l.at (decimal l.n)
