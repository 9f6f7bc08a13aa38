use mathlib.Core.Path.{ap, ◌∙◌}
use Rattle.vector_text.specs.Words.{parsed_decimal, number_of}
use Rattle.vector_text.proofs.words.number.Goals as goal

pub returns : goal.returns
unfolding number_of
returns c = c.decimal.ensures ∙ ap parsed_decimal c.word.ensures
