use Rattle.mdu.specs.Contract as Mdu
use Rattle.host.proofs.Bounds.{mdu_bound}
use Rattle.host.proofs.Signed.{answer_short, answer_is}
use Rattle.host.proofs.linebox_mdu_write.Goals as goal

pub returns : goal.returns
returns c =
    let a = c.args in
    answer_is Mdu.link mdu_bound (record { address = a.address; body = a.body.now })
    a.out.now c.write.ensures _ (record { sfits = c.int32_of.type_inv }) c.int32_of.ensures

pub int32_of-requires : goal.int32_of-requires
int32_of-requires c =
    let a = c.args in
    answer_short Mdu.link mdu_bound (record { address = a.address; body = a.body.now })
    a.out.now c.write.ensures
