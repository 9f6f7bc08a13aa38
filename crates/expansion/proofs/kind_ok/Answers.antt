use borrow.Author.Tests.{eq-eqb, ne_eqb, le-leb, lt-leb}
use Rattle.expansion.proofs.kind_ok.Goals as goal

pub returns-then-kind-eq0 : goal.returns-then-kind-eq0
returns-then-kind-eq0 c = simp (eq-eqb _ _ c.if-kind-eq0.true)

pub returns-then-kind-le2 : goal.returns-then-kind-le2
returns-then-kind-le2 c = simp (ne_eqb _ _ c.if-kind-eq0.false, le-leb _ _ c.if-kind-le2.true)

pub returns-else-kind-le2 : goal.returns-else-kind-le2
returns-else-kind-le2 c = simp (ne_eqb _ _ c.if-kind-eq0.false, lt-leb _ _ c.if-kind-le2.false)
