-- A message whose frame is of bytes is of bytes.
use Rattle.runs.specs.Runs.{Bytes}
use Rattle.runs.proofs.Bytes.{bytes_left, bytes_right}
use Rattle.std.proofs.Common.{◌++◌, length}
use Rattle.checksum.specs.Crc.{crc16_of}
use Rattle.mdu.specs.Frame.{Message, Typed, header, trailer, frame}

pub typed : (m : Message) → Bytes (frame m) → Typed m
typed m y = (
  y 4,
  bytes_left m.body (trailer (crc16_of m.body))
      (bytes_right (header (length m.body) m.address) (m.body ++ trailer (crc16_of m.body)) y),
)
