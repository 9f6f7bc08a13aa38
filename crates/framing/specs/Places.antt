-- What a call of a receiver leaves in the store, place by place, and how much data a message has that it tells.
use Rattle.std.specs.Prelude.{◌≡◌, ℕ, ◌-◌, ◌<◌, ◌≤◌, true, List, [], length, take, slice_index}
use Rattle.std.proofs.Math.Option.{Option, none, some}
use Rattle.framing.specs.Receiver.{last}
use Rattle.framing.specs.Segment.{Event, message, refusal}
use Rattle.framing.specs.Link.{Link, Lent, accepted, call_on, receives}

-- a store where bytes g were gathered and data d then unpacked: d from place 0 on, behind it each gathered byte at its place, and at every other
-- place what stood there before
pub record Places (d g before after : List ℕ) : Type 0 where
  pub same_length : length after ≡ length before
  pub unpacked : (i : ℕ) → i < length d → slice_index after i ≡ slice_index d i
  pub gathered : (i : ℕ) → length d ≤ i → i < length g → slice_index after i ≡ slice_index g i
  pub untouched : (i : ℕ) → length d ≤ i → length g ≤ i → slice_index after i ≡ slice_index before i

-- for a link: what is gathered once a byte has come that makes an event, of the bytes gathered before and that byte; and the data that an accepted
-- message leaves unpacked
module _ (L : Link) (with_last : List ℕ → ℕ → List ℕ) (unpacks : L.Message → List ℕ) where
  -- the bytes gathered by the rules, from a phase on, when a call ends that has used so many bytes of a piece and made this event or none
  abbrev pub gathered_by : L.Phase → List ℕ → ℕ → Option (Event L.Message) → List ℕ
  gathered_by p piece used none = L.gathered (last L.on_byte p (take used piece))
  gathered_by p piece used (some e) = with_last (L.gathered (last L.on_byte p (take (used - 1) piece))) (slice_index piece (used - 1))

  abbrev pub unpacked_by : Option (Event L.Message) → List ℕ
  unpacked_by none = []
  unpacked_by (some (message m)) = unpacks m
  unpacked_by (some (refusal n)) = []

  -- whatever the call: of a known state, a store of the link's size at least, any piece
  abbrev pub StoresGathered : Type 0
  StoresGathered =
      (c : Lent L) (piece : List ℕ) → L.known c.0 ≡ true → L.size ≤ length c.1
      → let f = call_on L c piece in
      Places (unpacked_by f.event) (gathered_by (L.phase_of c.0 c.1) piece f.used f.event) c.1 f.after.1

-- whatever the state, the store and the piece, a message that a call tells has data of at most so many bytes, by the count among its numbers
abbrev pub DataWithin : (L : Link) → (L.Numbers → ℕ) → ℕ → Type 0
DataWithin L count most = (c : Lent L) (piece : List ℕ) (v : L.Numbers) → (receives L c piece).0 ≡ accepted v → count v ≤ most
