use Rattle.std.proofs.Common.{arith}
use Rattle.std.proofs.lemmas.Grind.{common_steps}
use Rattle.decimal.proofs.Decimal.{decimal_exact, length-small}
use Rattle.decimal.proofs.digit_count.Goals as goal

pub returns-then-n-lt10 : goal.returns-then-n-lt10
returns-then-n-lt10 c = grind (arith, common_steps, length-small)

pub returns : goal.returns
returns c = grind (arith, common_steps, decimal_exact, length-small)
