-- Demand 3, whole: each of the four links, whatever two lists of calls, and the two CRCs.
use Rattle.framing.specs.Claims.{CallsTold}
use Rattle.checksum.specs.Claims.{Crc16Detects, Crc32Detects}
use Rattle.claims.specs.Links.{Which, link_of}

pub record Demand3 : Type 0 where
  -- on any link, the bytes of writer calls are the kept messages' frames end to end; of any two lists of calls they are equal exactly when the kept
  -- messages are, and one begins the other exactly when its kept list does
  pub calls : (w : Which) → CallsTold (link_of w)
  -- two runs of bytes of equal length that differ only within two neighbouring bytes have different check values of MDU, within four of expansion
  pub mdu_check : Crc16Detects
  pub expansion_check : Crc32Detects
