use mathlib.Core.Path.{◌∙◌}
use native.Mathlib.Omega.{arith}
use Rattle.record.proofs.Forms.{other_sign, own_sign}
use Rattle.record.proofs.Loops.{fill_start, fill_step, fill_end}
use Rattle.record.proofs.Copying.{copy_malformed, copy_other, copy_short, copy_done}
use Rattle.record.proofs.Viewing.{passed_up}
use Rattle.record.proofs.read.copy.Goals as goal

pub returns-in_err-header : goal.returns-in_err-header
returns-in_err-header g c =
    rw (passed_up c.from_residual.result _ c.from_residual.ensures, c.in_err-header.ensures.1)
    (copy_malformed g.F.Fare.fares _ _ c.in_err-header.ensures.0)

pub returns-then-header-SIGNED : goal.returns-then-header-SIGNED
returns-then-header-SIGNED g c =
    copy_other g.F.Fare.fares _ _ c.in_ok-header.ensures
    (other_sign _ _ _ (c.SIGNED.ensures ∙ g.met.F.Fare.sign) c.if-header-SIGNED.true)

pub returns-then-out-header : goal.returns-then-out-header
returns-then-out-header g c =
    copy_short g.F.Fare.fares _ _ c.in_ok-header.ensures
    (own_sign _ _ _ (c.SIGNED.ensures ∙ g.met.F.Fare.sign) c.if-header-SIGNED.false) c.if-out-header.true

pub loop-i-init : goal.loop-i-init
loop-i-init g c =
    let f = c.in_ok-header.ensures in
    fill_start g.F.Fare.fares c.args.bytes.now _ _ _ (omega (arith, f.count_is, c.if-out-header.false))

pub loop-i-preserved : goal.loop-i-preserved
loop-i-preserved g c =
    let f = c.in_ok-header.ensures in
    fill_step g.F.Fare.fares c.args.bytes.now _ _ c.loop-i.i _ c.loop-i.invariant (omega (arith, f.count_is, c.loop-i-test.true)) c.fare_at.ensures

pub returns : goal.returns
returns g c =
    let f = c.in_ok-header.ensures in
    copy_done g.F.Fare.fares _ _ f (own_sign _ _ _ (c.SIGNED.ensures ∙ g.met.F.Fare.sign) c.if-header-SIGNED.false) _ c.if-out-header.false
    (fill_end g.F.Fare.fares c.args.bytes.now _ _ _ c.loop-i.invariant (omega (arith, f.count_is, c.loop-i-test.false)))
