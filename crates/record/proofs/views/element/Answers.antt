use mathlib.Core.Path.{◌∙◌}
use Rattle.record.proofs.Forms.{other_sign, own_sign}
use Rattle.record.proofs.Viewing.{passed_up, or_absent, read_malformed, read_other, read_counted}
use Rattle.record.proofs.views.element.Goals as goal

pub returns-in_err-header : goal.returns-in_err-header
returns-in_err-header g c =
    rw (passed_up c.from_residual.result _ c.from_residual.ensures, c.in_err-header.ensures.1)
    (read_malformed g.F.Fare.fares _ _ c.in_err-header.ensures.0)

pub returns-then-header-SIGNED : goal.returns-then-header-SIGNED
returns-then-header-SIGNED g c =
    read_other g.F.Fare.fares _ _ c.in_ok-header.ensures
    (other_sign _ _ _ (c.SIGNED.ensures ∙ g.met.F.Fare.sign) c.if-header-SIGNED.true)

pub returns : goal.returns
returns g c =
    let sign = own_sign _ _ _ (c.SIGNED.ensures ∙ g.met.F.Fare.sign) c.if-header-SIGNED.false in
    rw c.ok_or.ensures.value (or_absent c.counted.result ∙ read_counted g.F.Fare.fares _ _ c.in_ok-header.ensures sign _ c.counted.ensures)
