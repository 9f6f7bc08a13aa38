use mathlib.Core.Path.{sym, ◌∙◌}
use native.Mathlib.Omega.{arith}
use Rattle.record.proofs.Forms.{allowed_none, product_le, allowed_so, allowed_not}
use Rattle.record.proofs.form.allowed_form.Goals as goal
use Rattle.record.proofs.form.allowed_form.Goals.{else-count-gt0-via-then-count-gt0+then-count-form+then-address-form+else-from-count-le1024}
use Rattle.record.proofs.form.allowed_form.Goals.{else-count-gt0-via-then-count-gt0+then-count-form+else-address-form}
use Rattle.record.proofs.form.allowed_form.Goals.{else-count-gt0-via-then-count-gt0+else-count-form, else-count-gt0-via-else-count-gt0}

pub returns-in_err-form : goal.returns-in_err-form
returns-in_err-form c = rw c.from_residual.ensures (allowed_none _ _ _ (sym c.form_of.ensures ∙ c.in_err-form.was))

pub overflow_mul-from : goal.overflow_mul-from
overflow_mul-from c = let l = product_le _ (sym c.in_ok-form.was ∙ c.form_of.ensures) c.args.count c.if-count-form.true in rw c.from.ensures (omega arith)

pub overflow_add-from : goal.overflow_add-from
overflow_add-from c = let l = product_le _ (sym c.in_ok-form.was ∙ c.form_of.ensures) c.args.count c.if-count-form.true in rw c.from.ensures (omega arith)

pub returns-then-from-count-le1024 : goal.returns-then-from-count-le1024
returns-then-from-count-le1024 c =
    let is = sym c.in_ok-form.was ∙ c.form_of.ensures in
    (allowed_so _ is _ _ c.if-count-gt0.true (omega arith) (rw c.from.ensures at c.if-from-count-le1024.true), is)

pub returns-else-count-gt0 : goal.returns-else-count-gt0
returns-else-count-gt0 c =
    let no = allowed_not _ (sym c.in_ok-form.was ∙ c.form_of.ensures) c.args.address c.args.count in
    elim c.else-count-gt0.branch [
      | else-count-gt0-via-then-count-gt0+then-count-form+then-address-form+else-from-count-le1024 w ↦
          no (λ n l s. let t = rw w.from.ensures at w.if-from-count-le1024.false in omega arith)
      | else-count-gt0-via-then-count-gt0+then-count-form+else-address-form w ↦ no (λ n l s. let t = w.if-address-form.false in omega arith)
      | else-count-gt0-via-then-count-gt0+else-count-form w ↦ no (λ n l s. let t = w.if-count-form.false in omega arith)
      | else-count-gt0-via-else-count-gt0 w ↦ no (λ n l s. let t = w.if-count-gt0.false in omega arith)
    ]
