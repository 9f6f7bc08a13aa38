-- The answers of a host's calls for the three-digit display.
use Rattle.std.specs.Prelude.{ℕ, ◌+◌, ◌*◌, ◌/◌, ◌%◌, ◌^◌, List, ℤ}
use Rattle.runs.specs.Number.{little_endian}
use Rattle.framing.specs.Writer.{writes}
use Rattle.display.specs.Profile.{order_ok, order_frame}
use Rattle.display.specs.Reading.{reading}
use Rattle.display.specs.End.{shown_of}
use Rattle.display.specs.declared.Order.{Order}
use Rattle.host.specs.Read.{encode}
use Rattle.host.specs.Write.{int32_of}

-- writing: the frame's length, or minus the refusal's number; the lent memory afterwards
abbrev pub order_written : Order → List ℕ → ℤ × List ℕ
order_written o out = (int32_of (writes order_ok order_frame o out).0, (writes order_ok order_frame o out).1)

-- an order: bits 0 to 7 are 0, then a byte each for receiver, sender and number, and from bit 32 on the value, which has 27 bits at most
abbrev pub order_code : Order → ℕ
order_code o = 2 ^ 8 * o.receiver + 2 ^ 16 * o.sender + 2 ^ 24 * o.number + 2 ^ 32 * o.value

-- reading: an order by its code, or the refusal's number; the store afterwards
abbrev pub order_read : List ℕ → List ℕ → ℕ × List ℕ
order_read run store = (encode order_code (reading run store).0, (reading run store).1)

-- the places that show a value, a byte each, the left one lowest
abbrev pub places_code : ℕ → ℕ
places_code v = little_endian (shown_of v)

-- what the header's accessors take out of a read's answer, and out of the places: place i
abbrev pub receiver_of : ℕ → ℕ
receiver_of r = r / 2 ^ 8 % 2 ^ 8

abbrev pub sender_of : ℕ → ℕ
sender_of r = r / 2 ^ 16 % 2 ^ 8

abbrev pub number_of : ℕ → ℕ
number_of r = r / 2 ^ 24 % 2 ^ 8

abbrev pub value_of : ℕ → ℕ
value_of r = r / 2 ^ 32 % 2 ^ 27

abbrev pub place_of : ℕ → ℕ → ℕ
place_of i r = r / 256 ^ i % 2 ^ 8
