use Prim.Native.Nat.{◌-◌, ◌≤◌}
use mathlib.Core.Path.{◌≡◌}
use lib.ListN.{length, drop}
use Rattle.vector_text.specs.Words.{words_from}
use Rattle.vector_text.proofs.words.start.Given as goal

-- at lies within the line; word k of the line is word k of what stands from at on, but for the words passed
abbrev pub invariant-loop-passed : goal.invariant-loop-passed
invariant-loop-passed l = (l.at ≤ length l.line) × (words_from (l.k - l.passed) (drop l.at l.line) ≡ words_from l.k l.line)
