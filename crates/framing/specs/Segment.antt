-- A link's rules cut the stream: a phase holds what is open, and a byte may close a segment. Events and counts are read off the segments.
use Rattle.std.specs.Prelude.{ℕ, ◌+◌, ◌%◌, ◌^◌, List, [], ◌∷◌, ◌++◌, length}
use Rattle.std.proofs.Math.Option.{Option, none, some}

-- noise; a refused frame with its number; an accepted frame. Every byte of a stream belongs to one of these or to what is open at the end
pub data Segment (M : Type 0) : Type 0 where
  noise : List ℕ → Segment M
  refused_frame : ℕ → List ℕ → Segment M
  accepted_frame : M → Segment M

-- what a caller hears of the stream: a message or a refusal
pub data Event (M : Type 0) : Type 0 where
  message : M → Event M
  refusal : ℕ → Event M

module _ {M : Type 0} where
  -- the event of the segment that a byte closes, if any: noise makes none
  abbrev pub event_of : Option (Segment M) → Option (Event M)
  event_of none = none
  event_of (some (noise bs)) = none
  event_of (some (refused_frame n bs)) = some (refusal n)
  event_of (some (accepted_frame m)) = some (message m)

  -- the noise count is taken modulo 2^32
  abbrev pub noise_after : Option (Segment M) → ℕ → ℕ
  noise_after none n = n
  noise_after (some (noise bs)) n = (n + length bs) % 2 ^ 32
  noise_after (some (refused_frame k bs)) n = n
  noise_after (some (accepted_frame m)) n = n

  -- the events of a list of segments, in order
  abbrev pub heard : List (Segment M) → List (Event M)
  heard [] = []
  heard (noise bs ∷ ss) = heard ss
  heard (refused_frame n bs ∷ ss) = refusal n ∷ heard ss
  heard (accepted_frame m ∷ ss) = message m ∷ heard ss

  -- how many of their bytes are noise
  abbrev pub noise_of : List (Segment M) → ℕ
  noise_of [] = 0
  noise_of (noise bs ∷ ss) = length bs + noise_of ss
  noise_of (refused_frame n bs ∷ ss) = noise_of ss
  noise_of (accepted_frame m ∷ ss) = noise_of ss

-- the wire bytes of a segment: an accepted message stands in the stream as its frame
module _ {M : Type 0} (frame : M → List ℕ) where
  abbrev pub wire_of : Segment M → List ℕ
  wire_of (noise bs) = bs
  wire_of (refused_frame n bs) = bs
  wire_of (accepted_frame m) = frame m

  abbrev pub wires : List (Segment M) → List ℕ
  wires [] = []
  wires (s ∷ ss) = wire_of s ++ wires ss
