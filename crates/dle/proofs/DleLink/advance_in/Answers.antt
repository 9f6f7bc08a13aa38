use Rattle.std.proofs.Common.{◌<◌, ◌^◌, ◌≡◌, arith}
use Rattle.dle.proofs.Passing.{passes}
use Rattle.dle.proofs.DleLink.advance_in.Goals as goal

pub returns-in-2-clause-leads : goal.returns-in-2-clause-leads
returns-in-2-clause-leads c =
    let a = c.args in
    let mode : a.state.mode ≡ 2 = omega (arith, c.in-2) in
    let fits : a.state.«open» < 2 ^ 32 = omega arith in
    (passes a.piece.now a.store.now _ a.state a.from _ mode fits c.requires.ready c.requires.within c.pass_bytes_in.ensures).leads

pub returns-in-2-clause-due : goal.returns-in-2-clause-due
returns-in-2-clause-due c =
    let a = c.args in
    let mode : a.state.mode ≡ 2 = omega (arith, c.in-2) in
    let fits : a.state.«open» < 2 ^ 32 = omega arith in
    let p = passes a.piece.now a.store.now _ a.state a.from _ mode fits c.requires.ready c.requires.within c.pass_bytes_in.ensures in
    λ _. record { count = p.count; room = omega (arith, p.leads.same_length, c.requires.ready.room) }
