use borrow.Author.Tests.{ne_eqb}
use Rattle.runs.specs.Number.{little_endian}
use Rattle.host.specs.Read.{packed}
use Rattle.host.proofs.DleMessageCoded.code.Goals as goal

pub returns-then-self-eq0 : goal.returns-then-self-eq0
unfolding packed little_endian
returns-then-self-eq0 c = rw c.if-self-eq0.true c.pack.ensures

pub returns-else-self-eq0 : goal.returns-else-self-eq0
unfolding packed little_endian
returns-else-self-eq0 c = simp (ne_eqb _ _ c.if-self-eq0.false) (rw c.from-size.ensures at c.pack-else-self-eq0.ensures)
