-- The rules of the expansion receiver: what each byte does, over the gathered bytes as a list, with no store.
use Rattle.std.specs.Prelude.{ℕ, ◌-◌, Bool, true, false, cond, ◌&&◌, not, List, [], ◌∷◌, ◌++◌, length, get_or, take, drop, eqb, leb, ltb}
use Rattle.std.proofs.Math.Option.{Option, none, some}
use Rattle.runs.specs.Number.{little_endian}
use Rattle.framing.specs.Segment.{Segment, noise, refused_frame, accepted_frame}
use Rattle.framing.specs.Tests.{first_of}
use Rattle.checksum.specs.Crc.{crc32_of}
use Rattle.escape.specs.Code.{Meaning, byte, waits, start, end, wrong, meaning, hide}
use Rattle.escape.specs.Expansion as Escape
use Rattle.expansion.specs.Frame.{Message, with_fields, kind_ok}

-- the store's size: a header of 4, at most 1,024 of data and the CRC of 4
abbrev pub size : ℕ
size = 1032

-- hunting; a frame is open, with an FF waiting or not and the gathered bytes
pub data Phase : Type 0 where
  hunting : Phase
  inside : Bool → List ℕ → Phase

abbrev pub gathered : Phase → List ℕ
gathered hunting = []
gathered (inside w g) = g

-- the wire bytes that belong to no segment yet: those of the open frame
abbrev pub held : Phase → List ℕ
held hunting = []
held (inside w g) = 0xFD ∷ (hide Escape.expansion g ++ cond w (0xFF ∷ []) [])

-- the CRC as sent, in the last four bytes, is that of those before it
abbrev pub check_right : List ℕ → Bool
check_right g = eqb (little_endian (drop (length g - 4) g)) (crc32_of (take (length g - 4) g))

-- a known type, a repeat of at most 3, and no data with types 1 and 2
abbrev pub fields_ok : List ℕ → Bool
fields_ok g = kind_ok (get_or g 1 0) (length g - 8) && leb (get_or g 2 0) 3

-- the tests at the end of a frame, in their order
abbrev pub tests : List ℕ → List (Bool × ℕ)
tests g =
    (ltb (length g) 8, 6)
    ∷ (not (check_right g), 8)
    ∷ (not (fields_ok g), 9)
    ∷ []

-- the number of the first that fires
unfoldable pub fault_of : List ℕ → ℕ
fault_of g = first_of (tests g)

-- the message of gathered bytes
abbrev pub message_in : List ℕ → Message
message_in g = with_fields (get_or g 0 0) (get_or g 1 0) (get_or g 2 0) (get_or g 3 0) (take (length g - 8) (drop 4 g))

-- the end of a frame of these wire bytes
abbrev pub judge : List ℕ → List ℕ → Segment Message
judge g wire = cond (eqb (fault_of g) 0) (accepted_frame (message_in g)) (refused_frame (fault_of g) wire)

-- one more byte is gathered, or 5 where it is one too many
abbrev pub gather : List ℕ → ℕ → List ℕ → Phase × Option (Segment Message)
gather g b wire = cond (ltb (length g) size) (inside false (g ++ (b ∷ [])), none) (hunting, some (refused_frame 5 wire))

-- a wire byte of an open frame by its meaning, with the wire bytes before it and with it: 4 at a new start, which opens the next frame; 7 where it is
-- wrongly coded
abbrev pub act : List ℕ → List ℕ → List ℕ → Meaning → Phase × Option (Segment Message)
act g before wire (byte b) = gather g b wire
act g before wire waits = (inside true g, none)
act g before wire start = (inside false [], some (refused_frame 4 before))
act g before wire end = (hunting, some (judge g wire))
act g before wire wrong = (hunting, some (refused_frame 7 wire))

-- hunting looks for FD
abbrev pub on_byte : Phase → ℕ → Phase × Option (Segment Message)
on_byte hunting b = cond (eqb b 0xFD) (inside false [], none) (hunting, some (noise (b ∷ [])))
on_byte (inside w g) b = act g (held (inside w g)) (held (inside w g) ++ (b ∷ [])) (meaning Escape.expansion w b)
