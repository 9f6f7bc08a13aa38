-- MDU messages and their frames.
use Rattle.std.specs.Prelude.{ℕ, ◌+◌, ◌/◌, ◌%◌, ◌<◌, Bool, ◌&&◌, List, [], ◌∷◌, ◌++◌, length, nat_le, slice_index}
use Rattle.runs.specs.Runs.{Bytes}
use Rattle.checksum.specs.Crc.{crc16_of}

-- an address, and a body: type and data together
pub record Message : Type 0 where
  pub address : ℕ
  pub body : List ℕ

-- the numbers are bytes, as a call's types have it
abbrev pub Typed : Message → Type 0
Typed m = (m.address < 256) × Bytes m.body

-- a length of 1 to 1,025
abbrev pub length_ok : ℕ → Bool
length_ok k = nat_le 1 k && nat_le k 1025

-- an address of 1 to 255 and a body of such a length may be sent
abbrev pub ok : Message → Bool
ok m = nat_le 1 m.address && length_ok (length m.body)

-- the header sum: the first five bytes modulo 256
abbrev pub header_sum : List ℕ → ℕ
header_sum g = (slice_index g 0 + slice_index g 1 + slice_index g 2 + slice_index g 3 + slice_index g 4) % 256

-- E3, version 01, the length high byte first, the address; and their sum
abbrev pub five : ℕ → ℕ → List ℕ
five k address = 0xE3 ∷ 0x01 ∷ k / 256 ∷ k % 256 ∷ address ∷ []

abbrev pub header : ℕ → ℕ → List ℕ
header k address = five k address ++ (header_sum (five k address) ∷ [])

-- the check value, high byte first
abbrev pub trailer : ℕ → List ℕ
trailer c = c / 256 ∷ c % 256 ∷ []

-- header, body, and the CRC of the body
abbrev pub frame : Message → List ℕ
frame m = header (length m.body) m.address ++ (m.body ++ trailer (crc16_of m.body))
