-- What the private functions answer: the steps of a call. `Ready` is also what `advance` and `step` test.
use Rattle.std.specs.Prelude.{ℕ, ◌+◌, ◌-◌, ◌≤◌, ◌≡◌, Bool, ◌&&◌, not, List, [], ◌∷◌, ltb, length, take, drop, set, get_or}
use Rattle.std.proofs.Math.Option.{Option}
use Rattle.framing.specs.Answer.{Outcome, done, refused}
use Rattle.framing.specs.Tests.{first_of}
use Rattle.framing.specs.Segment.{Segment, event_of}
use Rattle.framing.specs.State.{state_after}
use Rattle.framing.specs.Link.{Told, accepted, told}
use Rattle.framing.specs.Link as Link
use Rattle.framing.specs.Call.{told_of}
use Rattle.framing.specs.declared.State.{State}
use Rattle.pcs.specs.Frame.{trailer, trailing}
use Rattle.pcs.specs.Frame as Frame
use Rattle.pcs.specs.Rules.{Phase, size, plain_size, gathered, held, same}
use Rattle.pcs.specs.Contract.{mode_of, link}
use Rattle.pcs.specs.declared.Message.{Message}
use Rattle.framing.specs.declared.link.Stepped.{Stepped}

-- a message with this choice of a CRC
abbrev pub with_crc : Bool → Frame.Message → Frame.Message
with_crc crc m = Frame.with_fields m.receiver m.sender m.kind m.number m.sender_port m.receiver_port crc m.payload

-- memory that begins with a frame, whose info has become that of a frame with a CRC
abbrev pub crc_marked : List ℕ → List ℕ
crc_marked memory = set memory 3 (get_or memory 3 0 + 8)

-- the first three tests of gathered bytes, taken as a frame with or without a CRC
abbrev pub trailer_fault : Bool → List ℕ → ℕ
trailer_fault crc g =
    let end = length g - trailing crc in
    first_of
    ((ltb (length g) (8 + trailing crc), 6)
    ∷ (not crc && ltb plain_size (length g), 5)
    ∷ (not (same (drop end g) (trailer crc (take end g))), 8)
    ∷ [])

-- a frame that is read as a message or refused, as it is told
abbrev pub heard : Outcome Message → Told Message
heard (done v) = accepted v
heard (refused n) = Link.refused n

-- what is answered of a byte by what the rules give: the phase after it, and the segment that it closes
pub record ByRules (s : State) (c : Phase × Option (Segment Frame.Message)) (r : Stepped Message State) : Type 0 where
  pub tells : told_of r.told ≡ told link (event_of c.1)
  pub state : r.state ≡ state_after mode_of gathered held s c.0 c.1

-- a state and a store that bytes may come to: no more is counted than the size, and there is room for it
pub record Ready (s : State) (store : List ℕ) : Type 0 where
  pub count : s.count ≤ size
  pub room : size ≤ length store

-- a frame is open, its bytes at the front of the store
pub record Open (s : State) (store : List ℕ) : Type 0 where
  pub mode : s.mode ≡ 0 → ⊥
  pub ready : Ready s store
