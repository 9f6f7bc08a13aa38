use Rattle.std.proofs.Common.{◌≡◌, ℕ, ◌<◌, Bool, List, get_or, take, sym, ap, ◌∙◌, arith, get_or-take, length-take}
use Rattle.runs.specs.Runs.{between}
use Rattle.runs.proofs.Before.{before_within, before-mark, before-next}
use Rattle.runs.proofs.Run.{sets_more}
use Rattle.runs.proofs.copy_before.Goals as goal

-- what the test says of a byte of the first stop is so of the byte of s
told : (low high stop : ℕ) (s : List ℕ) (k : ℕ) {t u : Bool} → k < stop → t ≡ between low high (get_or (take stop s) k 0) → t ≡ u → between low high (get_or s k 0) ≡ u
told low high stop s k h e f = ap (between low high) (sym (get_or-take stop s k 0 h)) ∙ sym e ∙ f

pub returns-then-is_between-clause-count : goal.returns-then-is_between-clause-count
returns-then-is_between-clause-count c =
    let a = c.args in
    let k = c.loop-k.k in
    let h : k < c.min-stop.result = omega (arith, length-take c.min-stop.result a.s.now) in
    omega (arith, before-mark a.low a.high a.s.now k (omega arith) (told a.low a.high c.min-stop.result a.s.now k h c.is_between.ensures c.if-is_between.true))

pub loop-k-preserved : goal.loop-k-preserved
loop-k-preserved c =
    let a = c.args in
    let k = c.loop-k.k in
    let h : k < c.min-stop.result = omega (arith, length-take c.min-stop.result a.s.now) in
    let none = told a.low a.high c.min-stop.result a.s.now k h c.is_between.ensures c.if-is_between.false in (
      rw (c.loop-k.invariant.0, get_or-take c.min-stop.result a.s.now k 0 h) (sym (sets_more a.out.now a.at a.s.now k 0 (omega arith))),
      omega (arith, before-next a.low a.high a.s.now k (omega arith) none),
    )

pub returns-clause-count : goal.returns-clause-count
returns-clause-count c =
    let a = c.args in
    omega (arith, before_within a.low a.high a.s.now, length-take c.min-stop.result a.s.now)
