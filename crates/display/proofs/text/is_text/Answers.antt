use Rattle.std.proofs.Common.{ap, sym, ◌∙◌}
use Rattle.runs.proofs.Bytes.{part_rest}
use Rattle.decimal.specs.Decimal.{is_numeral}
use Rattle.display.specs.Profile.{word, most_digits}
use Rattle.display.proofs.Loops.{begins_starts}
use Rattle.display.proofs.text.is_text.Goals as goal

pub returns-then-starts_with : goal.returns-then-starts_with
returns-then-starts_with c =
    let u = c.args.«data».now in
    rw (sym (begins_starts word u) ∙ sym c.starts_with.ensures.value ∙ c.if-starts_with.true)
    (c.is_numeral.ensures ∙ ap (is_numeral most_digits) (part_rest u 5))

pub returns-else-starts_with : goal.returns-else-starts_with
returns-else-starts_with c =
    rw (sym (begins_starts word c.args.«data».now) ∙ sym c.starts_with.ensures.value ∙ c.if-starts_with.false) c.if-starts_with.false
