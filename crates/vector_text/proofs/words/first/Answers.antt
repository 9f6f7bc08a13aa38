use mathlib.Core.Path.{ap, ◌∙◌}
use Rattle.vector_text.specs.Words.{first_byte}
use Rattle.vector_text.proofs.words.first.Goals as goal

pub returns : goal.returns
returns c = c.first_of.ensures ∙ ap first_byte c.word.ensures
