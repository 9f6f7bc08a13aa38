use Rattle.std.proofs.Common.{◌≡◌, min, drop}
use Rattle.runs.specs.Number.{little_endian}
use Rattle.runs.proofs.Number.{part}
use Rattle.runs.proofs.number_at.Given as goal

-- n is the number that the bytes from k on stand for, of those that are read
abbrev pub invariant-loop-k : goal.invariant-loop-k
invariant-loop-k l = l.n ≡ little_endian (drop l.k (part l.s l.at (min l.size 4)))
