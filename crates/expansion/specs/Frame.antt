-- Messages of the expansion link and their frames.
use Rattle.std.specs.Prelude.{ℕ, ◌<◌, Bool, ◌&&◌, ◌||◌, List, [], ◌∷◌, ◌++◌, length, eqb, leb}
use Rattle.runs.specs.Runs.{Bytes}
use Rattle.runs.specs.Number.{bytes_of}
use Rattle.checksum.specs.Crc.{crc32_of}
use Rattle.escape.specs.Code.{hide}
use Rattle.escape.specs.Expansion as Escape

pub record Message : Type 0 where
  pub id : ℕ
  pub kind : ℕ
  pub repeat : ℕ
  pub address : ℕ
  pub payload : List ℕ

-- the numbers are bytes, as a call's types have it
pub record Typed (m : Message) : Type 0 where
  pub id : m.id < 256
  pub kind : m.kind < 256
  pub repeat : m.repeat < 256
  pub address : m.address < 256
  pub payload : Bytes m.payload

-- the message with these fields, in the order of a writer's call, and its data
abbrev pub with_fields : ℕ → ℕ → ℕ → ℕ → List ℕ → Message
with_fields id kind repeat address d = record { id = id; kind = kind; repeat = repeat; address = address; payload = d }

-- types 0 request, 1 acknowledgement, 2 check error; the latter two carry no data
abbrev pub kind_ok : ℕ → ℕ → Bool
kind_ok kind n = eqb kind 0 || (leb kind 2 && eqb n 0)

-- a message that may be sent: a known type, a repeat of at most 3, at most 1,024 bytes of data
abbrev pub ok : Message → Bool
ok m = kind_ok m.kind (length m.payload) && (leb m.repeat 3 && leb (length m.payload) 1024)

-- id, type, repeat, address, data: what the CRC covers
abbrev pub body : Message → List ℕ
body m = m.id ∷ m.kind ∷ m.repeat ∷ m.address ∷ m.payload

-- the CRC of the body, before hiding, low byte first
abbrev pub trailer : List ℕ → List ℕ
trailer body = bytes_of 4 (crc32_of body)

-- FD, the body and its CRC with FD, FE and FF hidden, FE
abbrev pub enclose : List ℕ → List ℕ
enclose g = 0xFD ∷ (hide Escape.expansion g ++ (0xFE ∷ []))

abbrev pub frame : Message → List ℕ
frame m = enclose (body m ++ trailer (body m))
