use Rattle.std.proofs.Common.{sym, ◌∙◌, arith}
use Rattle.runs.proofs.Number.{put_step, put_end}
use Rattle.runs.proofs.put_number.Goals as goal

pub loop-k-preserved : goal.loop-k-preserved
loop-k-preserved c =
    let a = c.args in
    let l = c.loop-k in
    put_step l.out a.at a.size l.k l.rest (omega arith) ∙ l.invariant

pub returns : goal.returns
returns c =
    let a = c.args in
    let l = c.loop-k in
    sym (put_end l.out a.at a.size l.k l.rest (omega arith)) ∙ l.invariant
