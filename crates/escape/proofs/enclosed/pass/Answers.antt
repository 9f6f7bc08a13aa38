use Rattle.std.proofs.Common.{◌-◌, min, length, take, drop, arith, length-drop, length-take}
use Rattle.escape.proofs.Lawful.{most_read, hide_unhide}
use Rattle.escape.proofs.enclosed.pass.Goals as goal

pub overflow_add-state : goal.overflow_add-state
overflow_add-state g c =
    let a = c.args in
    let left = take (length a.piece.now - a.from) (drop a.from a.piece.now) in
    let most = min (c.MOST.result - a.state.count) (length a.store.now - a.state.count) in
    omega (arith, c.MOST.ensures, c.requires.room.count, c.unhide_into-got.ensures.count, most_read g.E.Code.Code.code most left)

pub overflow_add-result : goal.overflow_add-result
overflow_add-result g c =
    let a = c.args in
    let left = take (length a.piece.now - a.from) (drop a.from a.piece.now) in
    let most = min (c.MOST.result - a.state.count) (length a.store.now - a.state.count) in
    omega (
      arith,
      c.requires.within,
      c.unhide_into-got.ensures.used,
      (hide_unhide g.E.Code.Code.code g.met.E.Code.Code.lawful most left).1,
      length-take (length a.piece.now - a.from) (drop a.from a.piece.now),
      length-drop a.from a.piece.now,
    )
