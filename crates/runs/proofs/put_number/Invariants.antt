use Rattle.std.proofs.Common.{◌≡◌, ◌+◌, ◌-◌}
use lib.Seq.{sets}
use Rattle.runs.specs.Number.{bytes_of}
use Rattle.runs.proofs.put_number.Given as goal

-- with the size - k low bytes of rest stored from place at + k on, out has all bytes of n
abbrev pub invariant-loop-k : goal.invariant-loop-k
invariant-loop-k l = sets l.out (l.at + l.k) (bytes_of (l.size - l.k) l.rest) ≡ sets l.initial.out l.at (bytes_of l.size l.n)
