use Rattle.std.proofs.Common.{◌≡◌, length, take, drop, refl, arith, length-take, length-drop}
use Rattle.checksum.specs.Crc.{shifts}
use Rattle.checksum.proofs.Tables.{low_bits, rows_part}
use Rattle.checksum.proofs.shift8.Goals as goal

pub returns : goal.returns
unfolding shifts
returns c =
    let t = c.table32.result.now in
    let two : length (take 2 (drop 6 t)) ≡ 2 = simp (length-take, length-drop) (rw c.table32.ensures.rows) in
    low_bits 0xEDB88320 8 0 c.args.c
    (c.by_rows.ensures 8 (rw two (omega arith)) (rw two (omega arith)) (rw two (rows_part 0xEDB88320 4 2 32 6 t c.table32.ensures.right))) refl
