-- CRCs, lowest bit of each byte first. A register of w bits is a number below 2 ^ w, its constant p the polynomial, reflected.
use Rattle.std.specs.Prelude.{ℕ, zero, suc, ◌/◌, ◌%◌, ◌*◌, ◌^◌, ◌-◌, List, [], ◌∷◌}
use Rattle.std.specs.Int.Bits.{bit_xor}

-- one bit leaves: the register moves down by one place, and p is xored into it where that bit is 1
abbrev pub shift : ℕ → ℕ → ℕ
shift p c = bit_xor (c / 2) (c % 2 * p)

-- k bits leave
unfoldable pub shifts : ℕ → ℕ → ℕ → ℕ
shifts p zero c = c
shifts p (suc k) c = shifts p k (shift p c)

-- one byte: it is xored into the lowest eight bits of the register, and eight bits leave
unfoldable pub byte_step : ℕ → ℕ → ℕ → ℕ
byte_step p c b = shifts p 8 (bit_xor c b)

-- the register after a run of bytes
unfoldable pub run : ℕ → ℕ → List ℕ → ℕ
run p c [] = c
run p c (b ∷ bs) = run p (byte_step p c b) bs

-- the 16-bit CRC: x^16 + x^15 + x^2 + 1, reflected, from a start; after no bytes it is the start
abbrev pub crc16_from : ℕ → List ℕ → ℕ
crc16_from start bs = run 0xA001 start bs

-- the CRC of a frame, on MDU and on PCS: start 0
abbrev pub crc16_of : List ℕ → ℕ
crc16_of bs = crc16_from 0 bs

-- the CRC of the expansion link: 04C11DB7, reflected, start and final xor all ones
abbrev pub crc32_of : List ℕ → ℕ
crc32_of bs = bit_xor (run 0xEDB88320 (2 ^ 32 - 1) bs) (2 ^ 32 - 1)
