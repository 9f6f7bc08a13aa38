use mathlib.Core.Path.{ap}
use mathlib.Core.Bool.{not}
use Rattle.record.specs.Fares.{unsigned_fares, signed_fares}
use Rattle.record.proofs.Viewing.{passed_up, view_malformed, view_other, view_held, read_other, read_counted}
use Rattle.record.proofs.views.view_element.Goals as goal
use Rattle.record.proofs.views.view_element.Goals.{then-header-v-via-then-header-v, then-header-v-via-else-header-v+then-header-v-2}

pub returns-in_err-header : goal.returns-in_err-header
returns-in_err-header c =
    rw (passed_up c.from_residual.result _ c.from_residual.ensures, c.in_err-header.ensures.1)
    (view_malformed _ _ _ _ c.in_err-header.ensures.0)

pub returns-then-header-v : goal.returns-then-header-v
returns-then-header-v c =
    view_other _ _ _ _ c.in_ok-header.ensures (elim c.then-header-v.branch [
      | then-header-v-via-then-header-v w ↦ λ k n. w.if-header-v.true k
      | then-header-v-via-else-header-v+then-header-v-2 w ↦ λ k n. w.if-header-v-2.true n
    ])

pub returns-then-header : goal.returns-then-header
returns-then-header c =
    let f = c.in_ok-header.ensures in
    view_held _ _ _ _ f c.if-header-v.false c.if-header-v-2.false
    (read_other unsigned_fares _ _ f (ap not c.if-header.true))
    (read_counted signed_fares _ _ f c.if-header.true _ c.counted.ensures)

pub returns-else-header : goal.returns-else-header
returns-else-header c =
    let f = c.in_ok-header.ensures in
    view_held _ _ _ _ f c.if-header-v.false c.if-header-v-2.false
    (read_counted unsigned_fares _ _ f (ap not c.if-header.false) _ c.counted-else-header.ensures)
    (read_other signed_fares _ _ f c.if-header.false)
