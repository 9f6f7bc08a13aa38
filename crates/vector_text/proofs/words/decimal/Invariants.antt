use mathlib.Core.Path.{◌≡◌}
use lib.ListN.{drop}
use Rattle.vector_text.specs.Words.{decimal_from, parsed_decimal}
use Rattle.vector_text.proofs.words.decimal.Given as goal

-- value, carried on over the bytes that the loop has not passed, is the number of the whole word
abbrev pub invariant-loop-b : goal.invariant-loop-b
invariant-loop-b l = decimal_from l.value (drop l.b-index l.word) ≡ parsed_decimal l.word
