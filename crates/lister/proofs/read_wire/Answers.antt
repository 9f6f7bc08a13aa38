use Rattle.std.proofs.Common.{◌≤◌, length, refl, ◌∙◌, arith}
use Rattle.runs.proofs.Bytes.{part_rest}
use Rattle.lister.specs.Receivers.{called_by}
use Rattle.lister.proofs.Turns.{call_within, wire-told}
use Rattle.lister.proofs.Wire.{wire_begin, wire_full, wire-idle, wire-next}
use Rattle.lister.proofs.read_wire.Goals as goal
use Rattle.lister.proofs.read_wire.Goals.{After-call-got, else-loop-text-test, then-loop-text-test+then-got-eq0}

-- the call uses no more bytes than are left
within : (c : After-call-got) → c.call-got.result.used ≤ length c.loop-text.rest.now
within c =
    let l = c.loop-text in
    call_within (l.receiver, l.store) l.rest.now c.call-got.ensures.told

pub loop-text-init : goal.loop-text-init
loop-text-init c =
    let a = c.args in
    (refl, wire_begin called_by (a.receiver, a.store.now) a.piece.now a.text.now)

pub overflow_sub-text : goal.overflow_sub-text
overflow_sub-text c = omega (arith, c.loop-text.invariant.1.place)

pub slice_bounds-rest-count : goal.slice_bounds-rest-count
slice_bounds-rest-count c = within (goal.at.slice_bounds-rest-count c).After-call-got

pub slice_bounds-rest-start : goal.slice_bounds-rest-start
slice_bounds-rest-start c = within (goal.at.slice_bounds-rest-start c).After-call-got

pub loop-text-preserved : goal.loop-text-preserved
loop-text-preserved c =
    let at = goal.at.loop-text-preserved c in
    let l = c.loop-text in
    let u = c.call-got in (
      u.auto.store ∙ l.invariant.0,
      wire-next called_by l.invariant.1 c.loop-text-test.true u.ensures.told c.if-got-eq0.false (within at.After-call-got)
          (part_rest l.rest.now u.result.used) c.put_at-written.ensures.puts c.put_at-written.ensures.within,
    )

pub returns : goal.returns
returns c =
    let a = c.args in
    let l = c.loop-text in
    record {
      told = elim c.loop-text-test.branch [
        | else-loop-text-test w ↦ rw (w.store-is, w.receiver-is)
            (wire-told _ l.written l.receiver l.store l.text (a.receiver, a.store.now) a.piece.now a.text.now
            (wire_full called_by l.invariant.1 w.loop-text-test.false))
        | then-loop-text-test+then-got-eq0 w ↦ rw (w.store-is, w.receiver-is)
            (wire-told _ l.written w.call-got.result.state w.call-got.new.store l.text (a.receiver, a.store.now) a.piece.now a.text.now
            (wire-idle called_by l.invariant.1 w.loop-text-test.true w.call-got.ensures.told w.if-got-eq0.true))
      ];
      within = (omega arith, omega (arith, l.invariant.1.place, l.invariant.1.long));
    }
