use mathlib.Core.Path.{sym, ◌∙◌}
use mathlib.Core.Bool.{and_assoc}
use Rattle.expansion.proofs.is_sendable.Goals as goal

pub returns-then-fields_ok : goal.returns-then-fields_ok
returns-then-fields_ok c = rw (← and_assoc, sym c.fields_ok.ensures ∙ c.if-fields_ok.true)

pub returns-else-fields_ok : goal.returns-else-fields_ok
returns-else-fields_ok c = rw (← and_assoc, sym c.fields_ok.ensures ∙ c.if-fields_ok.false) c.if-fields_ok.false
