use mathlib.Core.Path.{refl}
use Rattle.checksum.specs.Crc.{shifts}
use Rattle.checksum.proofs.Tables.{bases, row, row_out}
use Rattle.checksum.proofs.table16.Goals as goal

pub returns : goal.returns
unfolding shifts bases row
returns c = row_out 0xA001 4 4 refl
