use Rattle.std.proofs.Common.{◌≡◌, length, sym, ◌∙◌, arith}
use borrow.Author.Tests.{eqb-true, eqb-false}
use Rattle.listing_text.proofs.Lines.{length_none, length_some, length_message}
use Rattle.listing_text.proofs.message_length.Goals as goal

pub returns-then-is_empty : goal.returns-then-is_empty
returns-then-is_empty c =
    let d = c.args.«data».now in
    let none : length d ≡ 0 = eqb-true _ 0 (sym c.is_empty.ensures ∙ c.if-is_empty.true) in
    omega (arith, length_message c.args.field d, length_none d none, rw c.from.ensures at c.digit_count.ensures)

pub returns : goal.returns
returns c =
    let d = c.args.«data».now in
    let some : length d ≡ 0 → ⊥ = eqb-false _ 0 (sym c.is_empty.ensures ∙ c.if-is_empty.false) in
    omega (arith, length_message c.args.field d, length_some d some, rw c.from.ensures at c.digit_count.ensures)
