use mathlib.Core.Path.{refl}
use Rattle.checksum.specs.Crc.{shifts}
use Rattle.checksum.proofs.Tables.{bases, row, laid, laid_out}
use Rattle.checksum.proofs.table32.Goals as goal

pub returns : goal.returns
unfolding shifts bases row laid
returns c = record { rows = refl; right = laid_out 0xEDB88320 4 8 32 refl }
