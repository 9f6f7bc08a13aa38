use mathlib.Core.Path.{ap, ◌∙◌}
use Rattle.record.specs.Form.{bytes_in}
use Rattle.record.proofs.Loops.{put_start, put_step, put_end}
use Rattle.record.proofs.writer.put_elements.Goals as goal

pub loop-i-init : goal.loop-i-init
loop-i-init g c = put_start g.F.Fare.fares (bytes_in c.args.size) c.args.fares.now _ c.requires.0

pub loop-i-preserved : goal.loop-i-preserved
loop-i-preserved g c =
    put_step g.F.Fare.fares (bytes_in c.args.size) c.args.fares.now c.loop-i.i _ c.index-fares-i.result c.loop-i.invariant c.loop-i-test.true
    (c.to_number_at.ensures ∙ ap (g.F.Fare.fares.number_of (bytes_in c.args.size)) c.index-fares-i.is) (rw c.from-bytes.ensures at c.put_number.ensures)

pub returns : goal.returns
returns g c = put_end g.F.Fare.fares (bytes_in c.args.size) c.args.fares.now _ c.loop-i.invariant c.loop-i-test.false
