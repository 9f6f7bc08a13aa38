-- PCS messages and their frames.
use Rattle.std.specs.Prelude.{ℕ, ◌+◌, ◌/◌, ◌%◌, ◌<◌, Bool, cond, ◌&&◌, ◌||◌, List, [], ◌∷◌, ◌++◌, length, eqb, leb}
use Rattle.runs.specs.Runs.{Bytes}
use Rattle.packing.specs.Seven.{sent}
use Rattle.packing.specs.Packed.{packed}
use Rattle.checksum.specs.Sum.{sum_of}
use Rattle.checksum.specs.Crc.{crc16_of}

pub record Message : Type 0 where
  pub receiver : ℕ
  pub sender : ℕ
  pub kind : ℕ
  pub number : ℕ
  pub sender_port : ℕ
  pub receiver_port : ℕ
  pub crc : Bool
  pub payload : List ℕ

-- the numbers are bytes, as a call's types have it
pub record Typed (m : Message) : Type 0 where
  pub receiver : m.receiver < 256
  pub sender : m.sender < 256
  pub kind : m.kind < 256
  pub number : m.number < 256
  pub sender_port : m.sender_port < 256
  pub receiver_port : m.receiver_port < 256
  pub payload : Bytes m.payload

-- the message with these fields, in the order of a writer's call, and its data
abbrev pub with_fields : ℕ → ℕ → ℕ → ℕ → ℕ → ℕ → Bool → List ℕ → Message
with_fields receiver sender kind number from to crc d =
    record { receiver = receiver; sender = sender; kind = kind; number = number; sender_port = from; receiver_port = to; crc = crc; payload = d }

-- an address, a number or a port: 1 to 250; a receiver may also be 255, everybody
abbrev pub plain_ok : ℕ → Bool
plain_ok b = leb 1 b && leb b 250

abbrev pub receiver_ok : ℕ → Bool
receiver_ok b = plain_ok b || eqb b 255

-- addresses, number and ports
abbrev pub plain_fields_ok : Message → Bool
plain_fields_ok m =
    receiver_ok m.receiver && (plain_ok m.sender && (plain_ok m.number && (plain_ok m.sender_port && plain_ok m.receiver_port)))

-- kind 0 is an ordinary message, 1 asks for an acknowledgement; 2 and 3 are the positive and the negative one, without data
abbrev pub kind_ok : ℕ → ℕ → Bool
kind_ok kind n = leb kind 1 || (leb kind 3 && eqb n 0)

-- a message that may be sent
abbrev pub ok : Message → Bool
ok m = plain_fields_ok m && (kind_ok m.kind (length m.payload) && leb (length m.payload) 1024)

-- the info is this and the kind added: 4, and with a CRC 12
abbrev pub info_base : Bool → ℕ
info_base crc = cond crc 12 4

-- receiver, sender, info, number, length high and low in seven bits each, both ports; the length is that of the packed data, whatever follows them
abbrev pub header : Message → ℕ → List ℕ
header m k =
    m.receiver ∷ m.sender ∷ (info_base m.crc + m.kind) ∷ m.number
    ∷ sent (k / 128) ∷ sent (k % 128) ∷ m.sender_port ∷ m.receiver_port ∷ []

-- what the sum and the CRC cover: the header and the packed data, as sent
abbrev pub body : Message → List ℕ
body m = header m (length (packed m.payload)) ++ packed m.payload

-- a CRC in three bytes, lowest bits first: seven bits, seven bits, and the top two, each sent as a seven-bit value is
abbrev pub crc_bytes : ℕ → List ℕ
crc_bytes c = sent (c % 128) ∷ sent (c / 128 % 128) ∷ sent (c / 16384) ∷ []

-- what follows a body b: its sum, and with a CRC the three bytes of its CRC
abbrev pub trailer : Bool → List ℕ → List ℕ
trailer crc b = sum_of b ∷ cond crc (crc_bytes (crc16_of b)) []

-- how many bytes that is
abbrev pub trailing : Bool → ℕ
trailing crc = cond crc 4 1

-- 253, the body, its trailer, 254
abbrev pub frame : Message → List ℕ
frame m = 253 ∷ (body m ++ (trailer m.crc (body m) ++ (254 ∷ [])))
