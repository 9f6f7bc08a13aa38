-- The rules of the DLE receiver: what each byte does, over the gathered bytes as a list, with no store.
use Rattle.std.specs.Prelude.{ℕ, ◌-◌, Bool, true, false, cond, not, List, [], ◌∷◌, ◌++◌, length, get_or, drop, ltb, eqb}
use Rattle.std.proofs.Math.Option.{Option, none, some}
use Rattle.framing.specs.Segment.{Segment, noise, refused_frame, accepted_frame}
use Rattle.framing.specs.Tests.{first_of}
use Rattle.escape.specs.Code.{Meaning, byte, waits, start, end, wrong, meaning, hide}
use Rattle.escape.specs.Dle.{dle}
use Rattle.dle.specs.Frame.{Message, content, error}

-- the store's size: at most so many bytes are gathered, a header of 3 and 255 of data
abbrev pub size : ℕ
size = 258

-- hunting; hunting after a 10; a frame is open, with a 10 waiting or not and the gathered bytes
pub data Phase : Type 0 where
  hunting : Phase
  half : Phase
  inside : Bool → List ℕ → Phase

abbrev pub gathered : Phase → List ℕ
gathered hunting = []
gathered half = []
gathered (inside w g) = g

-- the wire bytes that belong to no segment yet: those of the open frame, or a 10 while hunting
abbrev pub held : Phase → List ℕ
held hunting = []
held half = 0x10 ∷ []
held (inside w g) = 0x10 ∷ 0x02 ∷ hide dle g ++ cond w (0x10 ∷ []) []

-- how many bytes stand behind a stated length: 0 marks an error message with its one byte
abbrev pub bytes_behind : ℕ → ℕ
bytes_behind stated = cond (eqb stated 0) 1 stated

-- so many are there
abbrev pub length_right : List ℕ → Bool
length_right g = eqb (bytes_behind (get_or g 2 0)) (length g - 3)

-- the tests at the end of a frame, in their order
abbrev pub tests : List ℕ → List (Bool × ℕ)
tests g =
    (ltb (length g) 4, 6)
    ∷ (not (length_right g), 10)
    ∷ []

-- the number of the first that fires
unfoldable pub fault_of : List ℕ → ℕ
fault_of g = first_of (tests g)

-- the message of gathered bytes
abbrev pub message_in : List ℕ → Message
message_in g = cond (eqb (get_or g 2 0) 0) (error (get_or g 0 0) (get_or g 1 0) (get_or g 3 0)) (content (get_or g 0 0) (get_or g 1 0) (drop 3 g))

-- the end of a frame of these wire bytes
abbrev pub judge : List ℕ → List ℕ → Segment Message
judge g wire = cond (eqb (fault_of g) 0) (accepted_frame (message_in g)) (refused_frame (fault_of g) wire)

-- one more byte is gathered, or 5 where it is one too many
abbrev pub gather : List ℕ → ℕ → List ℕ → Phase × Option (Segment Message)
gather g b wire = cond (ltb (length g) size) (inside false (g ++ (b ∷ [])), none) (hunting, some (refused_frame 5 wire))

-- a wire byte of an open frame by its meaning, with all its wire bytes: 4 at a new start, which opens the next frame; 7 where it is wrongly coded
abbrev pub act : List ℕ → List ℕ → Meaning → Phase × Option (Segment Message)
act g wire (byte b) = gather g b wire
act g wire waits = (inside true g, none)
act g wire start = (inside false [], some (refused_frame 4 (held (inside false g))))
act g wire end = (hunting, some (judge g wire))
act g wire wrong = (hunting, some (refused_frame 7 wire))

-- a 10 that no 02 follows opens nothing: both bytes are noise, even if the second is a 10
abbrev pub on_byte : Phase → ℕ → Phase × Option (Segment Message)
on_byte hunting b = cond (eqb b 0x10) (half, none) (hunting, some (noise (b ∷ [])))
on_byte half b = cond (eqb b 0x02) (inside false [], none) (hunting, some (noise (0x10 ∷ b ∷ [])))
on_byte (inside w g) b = act g (held (inside w g) ++ (b ∷ [])) (meaning dle w b)
