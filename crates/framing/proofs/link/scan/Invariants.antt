use Rattle.std.proofs.Common.{◌≤◌, ◌-◌, length}
use Rattle.framing.specs.Passing.{Passed}
use Rattle.framing.proofs.link.scan.Given as goal

abbrev pub invariant-loop-i : goal.invariant-loop-i
invariant-loop-i g l =
    record {
      within : l.i ≤ length l.piece;
      ready : g.L.Link.Ready l.current l.store;
      passed : Passed g.L.Link.step_on (l.initial.current, l.initial.store) l.piece (l.current, l.store) l.i;
    }

abbrev pub decreases-loop-i : goal.decreases-loop-i
decreases-loop-i g l = length l.piece - l.i
