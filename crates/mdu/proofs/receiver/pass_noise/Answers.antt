use Rattle.std.proofs.Common.{ne_eqb}
use Rattle.mdu.proofs.Body.{passes_noise}
use Rattle.mdu.proofs.receiver.pass_noise.Goals as goal

pub returns-else-passed-from : goal.returns-else-passed-from
returns-else-passed-from c =
    let a = c.args in
    passes_noise a.state c.requires.0 c.requires.1 a.piece.now a.from c.requires.2 c.pass_hunting-passed.result c.pass_hunting-passed.ensures _
    (rw (ne_eqb _ a.from c.if-passed-from.false))
