use Rattle.std.proofs.Common.{◌∙◌}
use Rattle.pcs.proofs.OnByte.{judge_noise}
use Rattle.pcs.proofs.Judge.{told_heard}
use Rattle.pcs.proofs.inside_byte.Goals as goal

pub returns-in-254-clause-stepped : goal.returns-in-254-clause-stepped
returns-in-254-clause-stepped c =
    let tells = told_heard c.judge_frame.result c.map.result c.map.ensures.cases in
    rw c.in-254.is (record { tells = tells ∙ c.judge_frame.ensures.told _; state = simp (judge_noise) c.close.ensures })

pub returns-in-254-clause-stored : goal.returns-in-254-clause-stored
returns-in-254-clause-stored c = rw c.in-254.is (c.judge_frame.ensures.stored _)
