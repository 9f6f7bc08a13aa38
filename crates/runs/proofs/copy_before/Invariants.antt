use Rattle.std.proofs.Common.{◌≡◌, ◌+◌, take, drop}
use lib.Seq.{sets}
use Rattle.runs.specs.Runs.{before}
use Rattle.runs.proofs.copy_before.Given as goal

-- out has the first k bytes of s stored; k and the bytes from there to the first mark are as many as from the start to it
abbrev pub invariant-loop-k : goal.invariant-loop-k
invariant-loop-k l =
    (l.out ≡ sets l.initial.out l.at (take l.k l.s)) × (l.k + before l.low l.high (drop l.k l.s) ≡ before l.low l.high l.s)
