use Rattle.std.proofs.Common.{◌+◌, ◌≤◌, ◌++◌, refl, sym, ap, ◌∙◌, arith}
use lib.Seq.{length-take-le}
use Rattle.framing.specs.Answer.{done}
use Rattle.decimal.specs.Decimal.{decimal}
use Rattle.display.specs.Profile.{word, largest}
use Rattle.display.proofs.Writing.{digits_count, digits_fit, text_is, order-written}
use Rattle.display.proofs.write.Goals as goal

-- `put` stores the digits of the value as a wider number
pub returns-in_err-end : goal.returns-in_err-end
returns-in_err-end c =
    let most : c.from.result ≤ largest = omega (arith, c.from.ensures, c.if-value-gt-LARGEST.false) in
    absurd (digits_fit c.from.result _ _ most c.in_err-end.ensures)

pub overflow_add-end : goal.overflow_add-end
overflow_add-end c =
    let most : c.from.result ≤ largest = omega (arith, c.from.ensures, c.if-value-gt-LARGEST.false) in
    omega (arith, digits_count c.from.result (done c.in_ok-end.field-0) _ most c.in_ok-end.ensures)

pub slice_bounds-data-end : goal.slice_bounds-data-end
slice_bounds-data-end c =
    let most : c.from.result ≤ largest = omega (arith, c.from.ensures, c.if-value-gt-LARGEST.false) in
    omega (arith, digits_count c.from.result (done c.in_ok-end.field-0) _ most c.in_ok-end.ensures, c.put.auto.out)

pub slice_bounds-write-end : goal.slice_bounds-write-end
slice_bounds-write-end c =
    let most : c.from.result ≤ largest = omega (arith, c.from.ensures, c.if-value-gt-LARGEST.false) in
    sym (length-take-le (5 + c.in_ok-end.field-0) c.put.new.out
    (omega (arith, digits_count c.from.result (done c.in_ok-end.field-0) _ most c.in_ok-end.ensures, c.put.auto.out)))

pub returns : goal.returns
returns c =
    let a = c.args in
    let n = c.in_ok-end.field-0 in
    let most : c.from.result ≤ largest = omega (arith, c.from.ensures, c.if-value-gt-LARGEST.false) in
    let text = text_is c.from.result (done n) _ most c.in_ok-end.ensures (5 + n) refl ∙ ap (λ v. word ++ decimal v) c.from.ensures in
    order-written (record { receiver = a.receiver; sender = a.sender; number = a.number; value = a.value }) _ a.out.now _ c.if-value-gt-LARGEST.false text
    c.write.ensures
