-- The rules of the PCS receiver: what each byte does, over the gathered bytes as a list, with no store.
use Rattle.std.specs.Prelude.{ℕ, ◌+◌, ◌-◌, ◌*◌, ◌%◌, Bool, true, false, cond, ◌&&◌, ◌||◌, not, List, [], ◌∷◌, ◌++◌, length, get_or}
use Rattle.std.specs.Prelude.{take, drop, eqb, leb, ltb}
use Rattle.std.proofs.Math.Option.{Option, none, some}
use Rattle.framing.specs.Segment.{Segment, noise, refused_frame, accepted_frame}
use Rattle.framing.specs.Tests.{first_of}
use Rattle.packing.specs.Seven.{is_sent, value_of}
use Rattle.packing.specs.Unpacked.{unpacked}
use Rattle.pcs.specs.Frame.{Message, with_fields, plain_fields_ok, kind_ok, trailer, trailing}

-- the store's size: a header of 8, at most 1,171 packed bytes, the sum and three bytes of CRC
abbrev pub size : ℕ
size = 1183

-- the most bytes that are gathered of a frame without a CRC
abbrev pub plain_size : ℕ
plain_size = 1180

-- hunting; a frame is open, with the gathered bytes between the marks
pub data Phase : Type 0 where
  hunting : Phase
  inside : List ℕ → Phase

abbrev pub gathered : Phase → List ℕ
gathered hunting = []
gathered (inside g) = g

-- the wire bytes that belong to no segment yet: those of the open frame
abbrev pub held : Phase → List ℕ
held hunting = []
held (inside g) = 253 ∷ g

-- a frame with info 12 to 15 has a CRC; any other is plain, and so is one that ends before its info
abbrev pub crc_info : ℕ → Bool
crc_info info = leb 12 info && leb info 15

abbrev pub has_crc : List ℕ → Bool
has_crc g = crc_info (get_or g 2 0)

-- the trailer is the last byte, or the last four; the body stands before it, and in it the packed bytes behind the header
abbrev pub body_part : List ℕ → List ℕ
body_part g = take (length g - trailing (has_crc g)) g

abbrev pub trailer_part : List ℕ → List ℕ
trailer_part g = drop (length g - trailing (has_crc g)) g

abbrev pub packed_part : List ℕ → List ℕ
packed_part g = drop 8 (body_part g)

-- a header and a trailer do not fit: fewer than 9 bytes, or with a CRC fewer than 12
abbrev pub too_short : List ℕ → Bool
too_short g = ltb (length g) (8 + trailing (has_crc g))

-- a plain frame longer than one can be, whatever its info; one with a CRC ends at the store's size at the latest
abbrev pub too_long : List ℕ → Bool
too_long g = not (has_crc g) && ltb plain_size (length g)

-- two runs are the same, byte for byte
unfoldable pub same : List ℕ → List ℕ → Bool
same [] [] = true
same [] (y ∷ ys) = false
same (x ∷ xs) [] = false
same (x ∷ xs) (y ∷ ys) = eqb x y && same xs ys

-- the trailer is that of the body, as sent: the sum, and with a CRC its three bytes
abbrev pub trailer_right : List ℕ → Bool
trailer_right g = same (trailer_part g) (trailer (has_crc g) (body_part g))

-- info is 4 to 7, or 12 to 15; its lowest two bits are the kind; the stated length has seven bits a byte
abbrev pub info_ok : ℕ → Bool
info_ok info = (leb 4 info && leb info 7) || crc_info info

abbrev pub kind_of : List ℕ → ℕ
kind_of g = get_or g 2 0 % 4

abbrev pub stated : List ℕ → ℕ
stated g = value_of (get_or g 4 0) * 128 + value_of (get_or g 5 0)

-- the message of gathered bytes, with its data
abbrev pub message_with : List ℕ → List ℕ → Message
message_with g d = with_fields (get_or g 0 0) (get_or g 1 0) (kind_of g) (get_or g 3 0) (get_or g 6 0) (get_or g 7 0) (has_crc g) d

-- addresses, number, ports, info, length bytes, and no stated length with kinds 2 and 3
abbrev pub fields_ok : List ℕ → Bool
fields_ok g =
    plain_fields_ok (message_with g [])
    && (info_ok (get_or g 2 0) && (is_sent (get_or g 4 0) && (is_sent (get_or g 5 0) && kind_ok (kind_of g) (stated g))))

-- as many packed bytes are there as stated
abbrev pub length_right : List ℕ → Bool
length_right g = eqb (stated g) (length (packed_part g))

-- the tests at the end of a frame before its data is unpacked, in their order
abbrev pub tests : List ℕ → List (Bool × ℕ)
tests g =
    (too_short g, 6)
    ∷ (too_long g, 5)
    ∷ (not (trailer_right g), 8)
    ∷ (not (fields_ok g), 9)
    ∷ (not (length_right g), 10)
    ∷ []

-- the number of the first that fires
unfoldable pub fault_of : List ℕ → ℕ
fault_of g = first_of (tests g)

-- the last test: 13 where the data is badly packed
abbrev pub unpack : List ℕ → List ℕ → Option (List ℕ) → Segment Message
unpack g wire none = refused_frame 13 wire
unpack g wire (some d) = accepted_frame (message_with g d)

-- the end of a frame of these wire bytes
abbrev pub judge : List ℕ → List ℕ → Segment Message
judge g wire = cond (eqb (fault_of g) 0) (unpack g wire (unpacked (packed_part g))) (refused_frame (fault_of g) wire)

-- one more byte is gathered, or 5 where it is one too many
abbrev pub gather : List ℕ → ℕ → List ℕ → Phase × Option (Segment Message)
gather g b wire = cond (ltb (length g) size) (inside (g ++ (b ∷ [])), none) (hunting, some (refused_frame 5 wire))

-- 253 always starts, with 4 where a frame is open; 254 ends an open frame
abbrev pub on_byte : Phase → ℕ → Phase × Option (Segment Message)
on_byte hunting b = cond (eqb b 253) (inside [], none) (hunting, some (noise (b ∷ [])))
on_byte (inside g) b =
    cond (eqb b 253) (inside [], some (refused_frame 4 (253 ∷ g)))
    (cond (eqb b 254) (hunting, some (judge g (253 ∷ g ++ (b ∷ [])))) (gather g b (253 ∷ g ++ (b ∷ []))))
