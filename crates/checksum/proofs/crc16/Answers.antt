use Rattle.std.proofs.Common.{ℕ, rules, tests, ap, ◌∙◌, arith}
use Rattle.std.proofs.lemmas.Iterator.{YieldsList-from_slice}
use Rattle.std.proofs.lemmas.Iterator.Consumers.{fold_from_yields_List}
use Rattle.checksum.specs.Crc.{run}
use Rattle.checksum.proofs.CheckValue.{crc16_from_lt}
use Rattle.checksum.proofs.Run.{run_fold}
use Rattle.checksum.proofs.crc16.Goals as goal

-- The last step asks only that the first value is the start, however it is worked out: edits of it are refused by that equation.
pub returns : goal.returns
returns c =
    fold_from_yields_List _ _ _ _ c.fold-value.ensures.ran (YieldsList-from_slice c.args.bytes.now cc) (λ t x s q k. search (rules, tests))
    ∙ run_fold 0xA001 _ c.args.bytes.now ∙ ap (λ (x : ℕ). run 0xA001 x c.args.bytes.now) (grind arith)

pub overflow_cast-result : goal.overflow_cast-result
overflow_cast-result c = omega (arith, returns c, crc16_from_lt c.args.bytes.now c.ranges.start.fits (λ i. (c.type_inv.bytes i).fits))
