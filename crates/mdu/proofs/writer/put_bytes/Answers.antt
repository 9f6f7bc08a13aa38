use Rattle.std.proofs.Common.{refl, arith, drop_of_length-le}
use Rattle.runs.proofs.Bytes.{drop-next}
use Rattle.runs.proofs.Run.{run-start, run-one, run_end}
use Rattle.mdu.proofs.writer.put_bytes.Goals as goal

pub loop-i-init : goal.loop-i-init
loop-i-init c = run-start c.requires refl

pub loop-i-preserved : goal.loop-i-preserved
loop-i-preserved c = run-one c.loop-i.invariant (drop-next c.args.bytes.now c.loop-i.i (omega arith)) refl

pub returns : goal.returns
returns c = run_end c.loop-i.invariant (drop_of_length-le c.args.bytes.now (omega arith))
