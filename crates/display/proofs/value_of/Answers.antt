use Rattle.std.proofs.Common.{arith}
use Rattle.display.proofs.Loops.{valued_none, valued_next, valued_all}
use Rattle.display.proofs.value_of.Goals as goal

pub loop-digit-init : goal.loop-digit-init
loop-digit-init c = valued_none _ c.requires.0 c.requires.1

pub overflow_mul-value : goal.overflow_mul-value
overflow_mul-value c = let n = valued_next c.loop-digit.invariant c.loop-digit-test.true in omega (arith, n.small)

pub overflow_sub-digit : goal.overflow_sub-digit
overflow_sub-digit c = (valued_next c.loop-digit.invariant c.loop-digit-test.true).low

pub overflow_add-value : goal.overflow_add-value
overflow_add-value c = let n = valued_next c.loop-digit.invariant c.loop-digit-test.true in omega (arith, n.small, c.from.ensures)

pub loop-digit-preserved : goal.loop-digit-preserved
loop-digit-preserved c = rw c.from.ensures (valued_next c.loop-digit.invariant c.loop-digit-test.true).after

pub returns : goal.returns
returns c = valued_all c.loop-digit.invariant (omega arith)
