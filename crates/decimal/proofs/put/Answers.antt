use Rattle.std.proofs.Common.{length, ◌<◌, ◌≤◌, ◌+◌, sym, ◌∙◌, arith}
use borrow.Author.Tests.{leb-true, leb-false}
use Rattle.framing.proofs.Stored.{stored_refused, stored_so}
use Rattle.decimal.specs.Decimal.{decimal}
use Rattle.decimal.proofs.put.Goals as goal

pub returns-then-not-fits : goal.returns-then-not-fits
returns-then-not-fits c =
    let a = c.args in
    let short : length a.out.now < a.at + c.digit_count-digits.result = leb-false _ _ (sym c.fits.ensures ∙ c.if-not-fits.true) in
    sym (stored_refused (decimal a.n) a.out.now a.at (omega arith))

pub returns : goal.returns
returns c =
    let a = c.args in
    -- the digits fit
    let room : a.at + c.digit_count-digits.result ≤ length a.out.now = leb-true _ _ (sym c.fits.ensures ∙ c.if-not-fits.false) in
    stored_so (decimal a.n) a.out.now a.at _ _ c.digit_count-digits.ensures.0 room c.put_digits.ensures
