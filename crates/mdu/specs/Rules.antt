-- The rules of the MDU receiver: what each byte does, over the gathered bytes as a list, with no store.
use Rattle.std.specs.Prelude.{ℕ, ◌+◌, ◌*◌, Bool, cond, not, List, [], ◌∷◌, ◌++◌, length, take, drop, ◌==◌, slice_index}
use Rattle.std.proofs.Math.Option.{Option, none, some}
use Rattle.framing.specs.Segment.{Segment, noise, refused_frame, accepted_frame}
use Rattle.framing.specs.Tests.{first_of}
use Rattle.checksum.specs.Crc.{crc16_of}
use Rattle.mdu.specs.Frame.{Message, length_ok, header_sum}

-- the store's size: a header of 6, a body of at most 1,025 and a check value of 2
abbrev pub size : ℕ
size = 1033

-- hunting; fewer than six bytes gathered; six or more, with the stated length
pub data Phase : Type 0 where
  hunting : Phase
  in_header : List ℕ → Phase
  in_body : ℕ → List ℕ → Phase

abbrev pub gathered : Phase → List ℕ
gathered hunting = []
gathered (in_header g) = g
gathered (in_body k g) = g

-- the wire bytes that belong to no segment yet: the whole frame is gathered, so those gathered
abbrev pub held : Phase → List ℕ
held p = gathered p

-- the stated length; k bytes of body, behind the header; the check value as sent behind them
abbrev pub stated : List ℕ → ℕ
stated g = slice_index g 2 * 256 + slice_index g 3

abbrev pub body_part : ℕ → List ℕ → List ℕ
body_part k g = take k (drop 6 g)

abbrev pub sent_check : ℕ → List ℕ → ℕ
sent_check k g = slice_index g (6 + k) * 256 + slice_index g (7 + k)

-- the tests of a header, in their order: version, address 0, header sum, length
abbrev pub header_tests : List ℕ → List (Bool × ℕ)
header_tests g =
    (not (slice_index g 1 == 0x01), 9)
    ∷ ((slice_index g 4 == 0), 9)
    ∷ (not (slice_index g 5 == header_sum g), 8)
    ∷ (not (length_ok (stated g)), 10)
    ∷ []

-- the number of the first that fires
unfoldable pub header_fault : List ℕ → ℕ
header_fault g = first_of (header_tests g)

-- byte six: the body follows, or the header is refused
abbrev pub enter : List ℕ → Phase × Option (Segment Message)
enter g = cond (header_fault g == 0) (in_body (stated g) g, none) (hunting, some (refused_frame (header_fault g) g))

-- the last byte of a body of k: 8 where the check value differs
abbrev pub finish : ℕ → List ℕ → Segment Message
finish k g =
    cond (sent_check k g == crc16_of (body_part k g))
    (accepted_frame (record { address = slice_index g 4; body = body_part k g }))
    (refused_frame 8 g)

-- hunting looks for E3, which inside a frame is a byte like any other
abbrev pub on_byte : Phase → ℕ → Phase × Option (Segment Message)
on_byte hunting b = cond (b == 0xE3) (in_header (b ∷ []), none) (hunting, some (noise (b ∷ [])))
on_byte (in_header g) b = cond (length g == 5) (enter (g ++ (b ∷ []))) (in_header (g ++ (b ∷ [])), none)
on_byte (in_body k g) b = cond (length g == 7 + k) (hunting, some (finish k (g ++ (b ∷ [])))) (in_body k (g ++ (b ∷ [])), none)
