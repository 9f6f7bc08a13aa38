use Rattle.record.specs.Form.{bytes_in}
use Rattle.record.proofs.Loops.{Put}
use Rattle.record.proofs.writer.put_elements.Given as goal

-- the bytes of the first i fares are stored behind the header, and those of the others are still to come
abbrev pub invariant-loop-i : goal.invariant-loop-i
invariant-loop-i g l = Put g.F.Fare.fares (bytes_in l.size) l.fares l.initial.out l.i l.out
