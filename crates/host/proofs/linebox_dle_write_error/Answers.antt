use Rattle.dle.specs.Contract as Dle
use Rattle.dle.specs.Frame.{error}
use Rattle.host.proofs.Bounds.{dle_bound}
use Rattle.host.proofs.Signed.{answer_short, answer_is}
use Rattle.host.proofs.linebox_dle_write_error.Goals as goal

pub returns : goal.returns
returns c =
    let a = c.args in
    answer_is Dle.link dle_bound (error a.sequence a.node a.error)
    a.out.now c.write_error.ensures _ (record { sfits = c.int32_of.type_inv }) c.int32_of.ensures

pub int32_of-requires : goal.int32_of-requires
int32_of-requires c =
    let a = c.args in
    answer_short Dle.link dle_bound (error a.sequence a.node a.error)
    a.out.now c.write_error.ensures
