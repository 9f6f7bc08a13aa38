use Rattle.expansion.specs.Frame.{with_fields}
use Rattle.expansion.specs.Contract as Expansion
use Rattle.host.proofs.Bounds.{expansion_bound}
use Rattle.host.proofs.Signed.{answer_short, answer_is}
use Rattle.host.proofs.linebox_expansion_write.Goals as goal

pub returns : goal.returns
returns c =
    let a = c.args in
    answer_is Expansion.link expansion_bound (with_fields a.id a.kind a.repeat a.address a.«data».now)
    a.out.now c.write.ensures _ (record { sfits = c.int32_of.type_inv }) c.int32_of.ensures

pub int32_of-requires : goal.int32_of-requires
int32_of-requires c =
    let a = c.args in
    answer_short Expansion.link expansion_bound (with_fields a.id a.kind a.repeat a.address a.«data».now)
    a.out.now c.write.ensures
