use Rattle.std.proofs.Common.{ℕ, ◌≡◌, ◌+◌, ◌-◌, ◌/◌, length, ap, sym, ◌∙◌, arith}
use lib.ListN.{set}
use lib.Seq.{sets}
use Rattle.decimal.specs.Decimal.{decimal}
use Rattle.decimal.proofs.Decimal.{low_digits, digits_all, digits_none, digits_next}
use Rattle.decimal.proofs.put_digits.Goals as goal

pub loop-place-init : goal.loop-place-init
loop-place-init c =
    let a = c.args in
    let e : a.at + a.digits - a.at ≡ length (decimal a.n) = omega (arith, c.requires.0) in
    rw e (ap (sets a.out.now a.at) (digits_all a.n))

-- The first step asks only that the digit is the lowest of the rest, however it is worked out: edits of it are refused by that equation.
pub loop-place-preserved : goal.loop-place-preserved
loop-place-preserved c =
    let l = c.loop-place in
    let at = c.args.at in
    ap (λ (digit : ℕ). sets (set l.out (l.place - 1) digit) at (low_digits (l.place - 1 - at) (l.rest / 10))) (grind arith)
    ∙ digits_next l.out at l.place l.rest (omega arith)
    ∙ l.invariant

pub returns : goal.returns
returns c =
    let a = c.args in
    let l = c.loop-place in
    sym (digits_none l.out a.at (l.place - a.at) l.rest (omega arith)) ∙ l.invariant
