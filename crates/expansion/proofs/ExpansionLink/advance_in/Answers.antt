use Rattle.std.proofs.Common.{◌<◌, ◌^◌, ◌≡◌, drop, sym, ap, arith}
use Rattle.runs.specs.Runs.{before}
use Rattle.runs.proofs.Bytes.{part_rest}
use Rattle.expansion.proofs.Passing.{leads_hunting, passes}
use Rattle.expansion.proofs.ExpansionLink.advance_in.Goals as goal

pub returns-in-0-clause-leads : goal.returns-in-0-clause-leads
returns-in-0-clause-leads c =
    let a = c.args in
    let mode : a.state.mode ≡ 0 = omega (arith, c.in-0) in
    rw c.pass_hunting.ensures
    (leads_hunting a.piece.now a.state a.store.now a.from (before 0xFD 0xFD (drop a.from a.piece.now)) mode c.requires.within
    (ap (before 0xFD 0xFD) (sym (part_rest a.piece.now a.from))))

pub returns-in-1-clause-leads : goal.returns-in-1-clause-leads
returns-in-1-clause-leads c =
    let a = c.args in
    let mode : a.state.mode ≡ 1 = omega (arith, c.in-1) in
    let fits : a.state.«open» < 2 ^ 32 = omega arith in
    (passes a.piece.now a.store.now _ a.state a.from _ mode fits c.requires.ready c.requires.within c.pass_bytes_in.ensures).0

pub returns-in-1-clause-due : goal.returns-in-1-clause-due
returns-in-1-clause-due c =
    let a = c.args in
    let mode : a.state.mode ≡ 1 = omega (arith, c.in-1) in
    let fits : a.state.«open» < 2 ^ 32 = omega arith in
    λ _. (passes a.piece.now a.store.now _ a.state a.from _ mode fits c.requires.ready c.requires.within c.pass_bytes_in.ensures).1
