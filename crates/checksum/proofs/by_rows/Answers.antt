use native.Mathlib.Nat.{sub-zero}
use Rattle.checksum.proofs.Tables.{row_start, row_turn, rows_end}
use Rattle.checksum.proofs.by_rows.Goals as goal

pub loop-row-init : goal.loop-row-init
loop-row-init c n room small rule = (simp sub-zero small, row_start 0xEDB88320 4 n c.args.c)

pub loop-row-preserved : goal.loop-row-preserved
loop-row-preserved c n room small rule =
    let l = c.loop-row in
    row_turn 0xEDB88320 4 n c.args.c l.row-index l.all l.rest c.args.rows.now room rule c.loop-row-test.true (l.invariant n room small rule)

pub returns : goal.returns
returns c n room small rule =
    let l = c.loop-row in
    rows_end 0xEDB88320 4 n c.args.c _ l.row-index l.all l.rest c.loop-row-test.false (l.invariant n room small rule)
