use Rattle.display.proofs.Loops.{Valued}
use Rattle.display.proofs.value_of.Given as goal

abbrev pub invariant-loop-digit : goal.invariant-loop-digit
invariant-loop-digit l = Valued l.digits l.value l.digit-index
