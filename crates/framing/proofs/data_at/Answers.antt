use Rattle.std.proofs.Common.{arith}
use Rattle.framing.proofs.Data.{data_inside, data_outside}
use Rattle.framing.proofs.data_at.Goals as goal

pub returns-then-store-place : goal.returns-then-store-place
returns-then-store-place c =
    let a = c.args in
    data_outside a.place a.count a.store.now (omega arith)

pub returns-then-count-store : goal.returns-then-count-store
returns-then-count-store c =
    let a = c.args in
    data_inside a.place a.count a.store.now (omega arith)

pub returns-else-count-store : goal.returns-else-count-store
returns-else-count-store c =
    let a = c.args in
    data_outside a.place a.count a.store.now (omega arith)
