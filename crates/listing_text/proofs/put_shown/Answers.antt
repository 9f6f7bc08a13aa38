use Rattle.std.proofs.Common.{sym, ◌∙◌}
use borrow.Author.Tests.{eqb-true, eqb-false}
use native.Mathlib.Omega.{arith}
use Rattle.listing_text.proofs.Puts.{puts_none, puts_then}
use Rattle.listing_text.proofs.Lines.{length-hex, shown_none, shown_some, length_some}
use Rattle.listing_text.proofs.put_shown.Goals as goal

pub returns-then-is_empty : goal.returns-then-is_empty
returns-then-is_empty c = rw (shown_none _ (eqb-true _ 0 (sym c.is_empty.ensures ∙ c.if-is_empty.true))) (puts_none _ _)

pub put_byte-first-requires : goal.put_byte-first-requires
put_byte-first-requires c =
    omega (arith, length_some c.args.«data».now (eqb-false _ 0 (sym c.is_empty.ensures ∙ c.if-is_empty.false)), c.requires)

pub put_hex-requires : goal.put_hex-requires
put_hex-requires c =
    omega (arith, length_some c.args.«data».now (eqb-false _ 0 (sym c.is_empty.ensures ∙ c.if-is_empty.false)), length-hex c.args.«data».now, c.requires)

pub returns : goal.returns
returns c =
    rw (shown_some _ (eqb-false _ 0 (sym c.is_empty.ensures ∙ c.if-is_empty.false))) (puts_then c.put_byte-first.ensures c.put_hex.ensures)
