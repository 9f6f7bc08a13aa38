-- The answer of a host's call on one whole frame, as one number.
use Rattle.std.specs.Prelude.{ℕ, ◌+◌, ◌*◌, ◌/◌, ◌%◌, ◌^◌, Bool, false, cond, List, [], ◌∷◌, eqb}
use Rattle.runs.specs.Number.{little_endian}
use Rattle.framing.specs.Answer.{Outcome, done, refused}
use Rattle.framing.specs.Link.{Link}
use Rattle.framing.specs.Whole.{read_on}
use Rattle.pcs.specs.declared.Message as Pcs
use Rattle.mdu.specs.declared.Message as Mdu
use Rattle.dle.specs.declared.Message as Dle
use Rattle.expansion.specs.declared.Message as Expansion

-- a message: bits 0 to 7 are 0, then 12 bits of data length, 2 of kind and 1 of crc, and from bit 24 a byte for each field, the first lowest
unfoldable pub packed : ℕ → ℕ → Bool → List ℕ → ℕ
packed size kind crc fields = 2 ^ 8 * (size % 2 ^ 12) + 2 ^ 20 * (kind % 2 ^ 2) + 2 ^ 22 * cond crc 1 0 + 2 ^ 24 * little_endian fields

-- a message by its code; a refusal is its number, and then nothing else
abbrev pub encode : {N : Type 0} → (N → ℕ) → Outcome N → ℕ
encode code (done v) = code v
encode code (refused n) = n

-- a read's answer as one number, and the store afterwards
abbrev pub coded : {N : Type 0} → (N → ℕ) → Outcome N × List ℕ → ℕ × List ℕ
coded code r = (encode code r.0, r.1)

-- the call: what is answered, and the store afterwards
abbrev pub reads : (L : Link) → (L.Numbers → ℕ) → List ℕ → List ℕ → ℕ × List ℕ
reads L code run store = coded code (read_on L run store)

-- PCS: the kind; whether with a CRC; receiver, sender, number, sender's port, receiver's port
abbrev pub pcs_code : Pcs.Message → ℕ
pcs_code m = packed m.length m.kind m.crc (m.receiver ∷ m.sender ∷ m.number ∷ m.sender_port ∷ m.receiver_port ∷ [])

-- MDU: the address
abbrev pub mdu_code : Mdu.Message → ℕ
mdu_code m = packed m.length 0 false (m.address ∷ [])

-- DLE: sequence, node, error byte; kind 1 marks an error message, of data length 0, and with data the error byte is 0
abbrev pub dle_code : Dle.Message → ℕ
dle_code m =
    cond (eqb m.length 0) (packed 0 1 false (m.sequence ∷ m.node ∷ m.error ∷ []))
    (packed m.length 0 false (m.sequence ∷ m.node ∷ 0 ∷ []))

-- expansion: id, type, repeat, address
abbrev pub expansion_code : Expansion.Message → ℕ
expansion_code m = packed m.length 0 false (m.id ∷ m.kind ∷ m.repeat ∷ m.address ∷ [])

-- what the header's accessors take out of an answer: the refusal, the data length, the kind, 1 with a CRC, field number i
abbrev pub refusal_of : ℕ → ℕ
refusal_of r = r % 2 ^ 8

abbrev pub length_of : ℕ → ℕ
length_of r = r / 2 ^ 8 % 2 ^ 12

abbrev pub kind_of : ℕ → ℕ
kind_of r = r / 2 ^ 20 % 2 ^ 2

abbrev pub crc_of : ℕ → ℕ
crc_of r = r / 2 ^ 22 % 2

abbrev pub field_of : ℕ → ℕ → ℕ
field_of i r = r / 2 ^ 24 / 256 ^ i % 2 ^ 8
