use Rattle.record.specs.Form.{size_of, kind_of, count_of}
use Rattle.record.proofs.Loops.{Filled}
use Rattle.record.proofs.read.copy.Given as goal

-- the first i fares are stored from the start of out on, and the others are still to come
abbrev pub invariant-loop-i : goal.invariant-loop-i
invariant-loop-i g l = Filled g.F.Fare.fares l.bytes (size_of (kind_of l.bytes)) (count_of l.bytes) l.initial.out l.i l.out
