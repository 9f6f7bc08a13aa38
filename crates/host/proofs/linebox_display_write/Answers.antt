use Rattle.display.specs.Profile.{order_ok, order_frame}
use Rattle.host.proofs.Bounds.{order_bound}
use Rattle.host.proofs.Signed.{call_short, call_is}
use Rattle.host.proofs.linebox_display_write.Goals as goal

pub returns : goal.returns
returns c =
    let a = c.args in
    call_is order_ok order_frame order_bound (record { receiver = a.receiver; sender = a.sender; number = a.number; value = a.value })
    a.out.now c.write.ensures _ (record { sfits = c.int32_of.type_inv }) c.int32_of.ensures

pub int32_of-requires : goal.int32_of-requires
int32_of-requires c =
    let a = c.args in
    call_short order_ok order_frame order_bound (record { receiver = a.receiver; sender = a.sender; number = a.number; value = a.value })
    a.out.now c.write.ensures
