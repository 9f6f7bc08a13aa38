use Rattle.std.proofs.Common.{sym, ◌∙◌, arith}
use Rattle.runs.proofs.Bytes.{part_rest}
use Rattle.listing.proofs.Drive.{drives_next}
use Rattle.listing.proofs.list_piece.Goals as goal

pub loop-rest-preserved : goal.loop-rest-preserved
loop-rest-preserved g c =
    let l = c.loop-rest in
    let u = c.feed-got in (
      u.auto.store ∙ l.invariant.0,
      u.auto.text ∙ l.invariant.1,
      drives_next l.invariant.2 u.result u.new.store l.text u.new.text _ (omega (arith, u.ensures.within.0, c.if-got-eq0.false)) (sym l.invariant.1)
          u.ensures.told c.if-got-eq0.false (part_rest l.rest.now u.result.used),
    )
