-- What is claimed of the expansion link besides the claims on every link.
use Rattle.std.specs.Prelude.{ℕ, ◌-◌, ◌≤◌, ◌≡◌, true, List, [], ◌∷◌, ◌++◌, length, take}
use Rattle.std.proofs.Math.Option.{some}
use Rattle.runs.specs.Runs.{Bytes}
use Rattle.framing.specs.Receiver.{last, drive, join}
use Rattle.framing.specs.Segment.{Segment, refused_frame, refusal, wires}
use Rattle.framing.specs.Link.{Lent, step_on, call_on, called}
use Rattle.framing.specs.Claims.{segments}
use Rattle.framing.specs.Refusals as Refusals
use Rattle.framing.specs.Places as Places
use Rattle.expansion.specs.Frame.{Message, ok, enclose, frame}
use Rattle.expansion.specs.Rules.{size, gathered}
use Rattle.expansion.specs.Contract.{phase_of, link}

-- a new start, a byte too many, the least size, a wrong code, the CRC, the fields; no length is stated
abbrev pub stream_numbers : List ℕ
stream_numbers = 4 ∷ 5 ∷ 6 ∷ 7 ∷ 8 ∷ 9 ∷ []

abbrev pub GivesExactly : Type 0
GivesExactly = Refusals.GivesExactly link stream_numbers

abbrev pub ReceiveGives : Type 0
ReceiveGives = Refusals.ReceiveGives link stream_numbers

-- a byte that makes an event is not gathered; nothing is unpacked
abbrev pub StoresGathered : Type 0
StoresGathered = Places.StoresGathered link (λ g b. g) (λ m. [])

-- no call tells a message with more than 1,024 bytes of data
abbrev pub DataWithin : Type 0
DataWithin = Places.DataWithin link (λ v. v.length) 1024

-- no frame has more than 2,066 bytes on the wire
abbrev pub FrameBound : Type 0
FrameBound = (m : Message) → ok m ≡ true → length (frame m) ≤ 2066

-- what had been gathered when the last byte came that a call used
abbrev pub gathered_before : Lent link → List ℕ → List ℕ
gathered_before c piece =
    let d = last (step_on link) c (take ((call_on link c piece).used - 1) piece) in
    gathered (phase_of d.0 d.1)

-- gathered bytes, a header and a CRC at least, stand at the start of a store: the id at place 0, the address at place 3
pub record Stands (g store : List ℕ) : Type 0 where
  pub long : 8 ≤ length g
  pub here : take (length g) store ≡ g

-- a call that ends in 8 leaves the gathered bytes in the store, so that the frame can be answered
abbrev pub RefusedHeader : Type 0
RefusedHeader =
    (c : Lent link) (piece : List ℕ) → (call_on link c piece).event ≡ some (refusal 8)
    → Stands (gathered_before c piece) (call_on link c piece).after.1

-- the last segment of a stream is a frame refused with 8: on the wire it is g, hidden between the marks, and g stands at the start of the store
pub record RefusedFrame (stream store g : List ℕ) : Type 0 where
  pub before : List (Segment Message)
  pub ends : segments link stream ≡ before ++ (refused_frame 8 (enclose g) ∷ [])
  pub wire : stream ≡ wires frame before ++ enclose g
  pub stands : Stands g store

-- what a fresh receiver, its store handed back untouched, has after a stream that comes in pieces
abbrev pub after_stream : List (List ℕ) → List ℕ → Lent link
after_stream pieces store = (drive (called link) (link.fresh, store) pieces).1

-- so a call of it that ends in 8, wherever the stream was cut, leaves the bytes of the refused frame in the store as they were sent
abbrev pub RefusedAsSent : Type 0
RefusedAsSent =
    (pieces : List (List ℕ)) (piece store : List ℕ) → Bytes (join pieces ++ piece) → size ≤ length store
    → let f = call_on link (after_stream pieces store) piece in
    f.event ≡ some (refusal 8) → (g : List ℕ) × RefusedFrame (join pieces ++ take f.used piece) f.after.1 g
