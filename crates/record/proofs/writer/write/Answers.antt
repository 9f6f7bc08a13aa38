use mathlib.Core.Path.{sym, ap, ◌∙◌}
use native.Mathlib.Omega.{arith}
use lib.Seq.{sets}
use Rattle.record.specs.Form.{bytes_in}
use Rattle.record.specs.Fares.{elements}
use Rattle.record.proofs.Forms.{other_sign}
use Rattle.record.proofs.Writing.{sendable, send_whole, send_few, write_other, write_not_allowed, write_not_held, write_short, write_done}
use Rattle.record.proofs.writer.write.Goals as goal
use Rattle.record.proofs.writer.write.Goals.{then-form-SIGNED-via-then-form-SIGNED, then-form-SIGNED-via-else-form-SIGNED+then-not-holds_all}

pub returns-in_default : goal.returns-in_default
returns-in_default g c = write_not_allowed g.F.Fare.fares _ _ _ _ (rw c.from.ensures at c.in_default.ensures)

pub returns-then-form-SIGNED : goal.returns-then-form-SIGNED
returns-then-form-SIGNED g c =
    let is = c.in-Some.ensures.1 in
    elim c.then-form-SIGNED.branch [
      | then-form-SIGNED-via-then-form-SIGNED w ↦
          write_other g.F.Fare.fares _ _ _ is _ (other_sign _ _ _ (c.SIGNED.ensures ∙ g.met.F.Fare.sign) w.if-form-SIGNED.true)
      | then-form-SIGNED-via-else-form-SIGNED+then-not-holds_all w ↦
          write_not_held g.F.Fare.fares _ _ _ is _ (sym w.holds_all.ensures ∙ w.if-not-holds_all.true)
    ]

pub overflow_mul-whole : goal.overflow_mul-whole
overflow_mul-whole g c =
    let s = sendable g.F.Fare.fares _ _ _ c.in-Some.ensures c.from.ensures (c.SIGNED.ensures ∙ g.met.F.Fare.sign) c.if-form-SIGNED.false
    c.holds_all.ensures c.if-not-holds_all.false in
    rw c.from-2.ensures (omega (arith, send_whole g.F.Fare.fares _ _ _ s))

pub overflow_add-whole : goal.overflow_add-whole
overflow_add-whole g c =
    let s = sendable g.F.Fare.fares _ _ _ c.in-Some.ensures c.from.ensures (c.SIGNED.ensures ∙ g.met.F.Fare.sign) c.if-form-SIGNED.false
    c.holds_all.ensures c.if-not-holds_all.false in
    rw c.from-2.ensures (omega (arith, send_whole g.F.Fare.fares _ _ _ s))

pub returns-then-out-whole : goal.returns-then-out-whole
returns-then-out-whole g c =
    let s = sendable g.F.Fare.fares _ _ _ c.in-Some.ensures c.from.ensures (c.SIGNED.ensures ∙ g.met.F.Fare.sign) c.if-form-SIGNED.false
    c.holds_all.ensures c.if-not-holds_all.false in
    write_short g.F.Fare.fares _ _ _ s _ (rw c.from-2.ensures at c.if-out-whole.true)

pub put_header-requires : goal.put_header-requires
put_header-requires g c =
    let s = sendable g.F.Fare.fares _ _ _ c.in-Some.ensures c.from.ensures (c.SIGNED.ensures ∙ g.met.F.Fare.sign) c.if-form-SIGNED.false
    c.holds_all.ensures c.if-not-holds_all.false in
    (omega arith, send_few g.F.Fare.fares _ _ _ s)

pub put_elements-requires : goal.put_elements-requires
put_elements-requires g c = (
  rw (c.put_header.auto.out, ← c.from-2.ensures) c.if-out-whole.false,
  sym c.holds_all.ensures ∙ c.if-not-holds_all.false,
)

pub returns : goal.returns
returns g c =
    let s = sendable g.F.Fare.fares _ _ _ c.in-Some.ensures c.from.ensures (c.SIGNED.ensures ∙ g.met.F.Fare.sign) c.if-form-SIGNED.false
    c.holds_all.ensures c.if-not-holds_all.false in
    rw c.from-2.ensures (write_done g.F.Fare.fares _ _ _ s _ _ (rw c.from-2.ensures at c.if-out-whole.false)
    (c.put_elements.ensures ∙ ap (λ x. sets x 5 (elements g.F.Fare.fares (bytes_in c.in-Some.form.size) c.args.fares.now)) c.put_header.ensures))
