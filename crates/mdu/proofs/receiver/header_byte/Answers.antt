use Rattle.std.proofs.Common.{sym, subst, arith}
use Rattle.mdu.specs.Steps.{ByRules}
use Rattle.mdu.proofs.Store.{header_enters}
use Rattle.mdu.proofs.receiver.header_byte.Goals as goal

pub returns-then-at-eq5-clause-stepped : goal.returns-then-at-eq5-clause-stepped
returns-then-at-eq5-clause-stepped c =
    let a = c.args in
    subst (λ x. ByRules a.state x c.enter_body.result) (sym (header_enters a.store.now a.state.base.count a.byte (omega arith) c.if-at-eq5.true))
    c.enter_body.ensures
