use Rattle.std.proofs.Common.{ℕ, ◌^◌, ◌-◌, ap}
use lib.Bits.{bit_xor}
use Rattle.checksum.proofs.Run.{run-joined}
use Rattle.checksum.proofs.crc32_joined.Goals as goal

pub returns : goal.returns
returns c = ap (λ (x : ℕ). bit_xor x (2 ^ 32 - 1)) (run-joined 0xEDB88320 (2 ^ 32 - 1) _ _ c.after.ensures c.after32.ensures)
