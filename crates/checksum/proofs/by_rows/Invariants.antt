use Rattle.std.proofs.Common.{ℕ, ◌*◌, ◌-◌, ◌^◌, ◌<◌, ◌≤◌, length}
use Rattle.checksum.specs.Tables.{Rows}
use Rattle.checksum.proofs.Tables.{RowsDone}
use Rattle.checksum.proofs.by_rows.Given as goal

-- the rows before row-index have given all, and rest has the bits of those that are left
abbrev pub invariant-loop-row : goal.invariant-loop-row
invariant-loop-row l =
    (n : ℕ) → length l.rows * 4 ≤ n → l.c < 2 ^ (4 * length l.rows) → Rows 0xEDB88320 4 (length l.rows) n l.rows
    → (l.rest < 2 ^ (4 * (length l.rows - l.row-index))) × RowsDone 0xEDB88320 4 n l.c l.row-index l.all l.rest
