use Rattle.std.proofs.Common.{ap, sym, drop}
use Rattle.runs.specs.Runs.{before}
use Rattle.runs.proofs.Bytes.{part_rest}
use Rattle.pcs.proofs.Passing.{leads_hunting}
use Rattle.pcs.proofs.PcsLink.advance_in.Goals as goal

pub returns-in-0-clause-leads : goal.returns-in-0-clause-leads
returns-in-0-clause-leads c =
    let a = c.args in
    rw c.pass_hunting.ensures
    (leads_hunting a.piece.now a.state a.store.now a.from (before 253 253 (drop a.from a.piece.now)) c.in-0.is
    c.requires.within (ap (before 253 253) (sym (part_rest a.piece.now a.from))))
