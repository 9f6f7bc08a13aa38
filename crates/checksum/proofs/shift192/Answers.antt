use Rattle.std.proofs.Common.{ℕ, ◌/◌, ◌%◌, arith, lit<}
use native.Mathlib.Nat.{mod-lt}
use Rattle.checksum.specs.Tables.{Rows}
use Rattle.checksum.proofs.Tables.{low_bits}
use Rattle.checksum.proofs.shift192.Goals as goal

pub returns : goal.returns
unfolding Rows
returns c =
    let p : ℕ = 0xEDB88320 in
    let x = c.args.c in
    let rule = c.braid32-rows.ensures in
    low_bits p 8 184 x (rule 0 (x % 256) (lit< tt) (mod-lt x (lit< tt)))
    (low_bits p 8 176 (x / 256) (rule 1 (x / 256 % 256) (lit< tt) (mod-lt (x / 256) (lit< tt)))
    (low_bits p 8 168 (x / 256 / 256) (rule 2 (x / 256 / 256 % 256) (lit< tt) (mod-lt (x / 256 / 256) (lit< tt)))
    (rule 3 (x / 256 / 256 / 256) (lit< tt) (omega arith))))
