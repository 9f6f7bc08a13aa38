use Rattle.std.proofs.Common.{◌∙◌}
use Rattle.checksum.proofs.Run.{four_bytes}
use Rattle.checksum.proofs.word.Goals as goal

pub returns : goal.returns
returns c = c.from_le_bytes.ensures ∙ four_bytes c.args.bytes.now c.told-bytes
