use Rattle.std.proofs.Common.{◌-◌, length}
use Rattle.escape.proofs.Reading.{Reading}
use Rattle.escape.proofs.unhide.Given as goal

-- count is within out; used lies within the wire; count bytes are stored, and what the wire from there on stands for is still to come;
-- used and the wire bytes still to be used are all that the call uses
abbrev pub invariant-loop-count : goal.invariant-loop-count
invariant-loop-count g l = Reading g.C.Code.code l.wire l.initial.out (length l.initial.out) l.out l.count l.used

abbrev pub decreases-loop-count : goal.decreases-loop-count
decreases-loop-count g l = length l.wire - l.used
