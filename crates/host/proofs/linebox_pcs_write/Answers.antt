use lib.Dec.{eqb}
use borrow.Author.Tests.{le-leb, lt-leb}
use mir.Syntax.{w32}
use mir.ValLaws.{to_z-of_z}
use Rattle.pcs.specs.Frame.{with_fields}
use Rattle.pcs.specs.Contract as Pcs
use Rattle.host.proofs.Bounds.{pcs_bound}
use Rattle.host.proofs.Signed.{answer_short, answer_is}
use Rattle.host.proofs.linebox_pcs_write.Goals as goal

-- a crc above 1 is refused at once; else the call is the writer's
pub returns-then-crc-gt1 : goal.returns-then-crc-gt1
returns-then-crc-gt1 c =
    let a = c.args in
    rw (lt-leb a.crc 1 c.if-crc-gt1.true, to_z-of_z w32 c.int32_of.result (record { sfits = c.int32_of.type_inv }), c.int32_of.ensures)

pub int32_of-requires-2 : goal.int32_of-requires-2
int32_of-requires-2 c =
    let a = c.args in
    answer_short Pcs.link pcs_bound
    (with_fields a.receiver a.sender a.kind a.number a.sender_port a.receiver_port (eqb a.crc 1) a.«data».now)
    a.out.now c.write.ensures

pub returns : goal.returns
returns c =
    let a = c.args in
    rw (le-leb a.crc 1 c.if-crc-gt1.false)
    (answer_is Pcs.link pcs_bound
    (with_fields a.receiver a.sender a.kind a.number a.sender_port a.receiver_port (eqb a.crc 1) a.«data».now)
    a.out.now c.write.ensures _ (record { sfits = c.int32_of-2.type_inv }) c.int32_of-2.ensures)
