-- What the functions of the PCS link answer and leave, for every input.
use Rattle.std.specs.Prelude.{ℕ, cond, List, length, take, eqb}
use Rattle.std.proofs.Math.Option.{Option, none, some}
use Rattle.framing.specs.Segment.{Segment, noise, refused_frame, accepted_frame}
use Rattle.framing.specs.State.{fresh_state, known_state, state_after}
use Rattle.framing.specs.Link.{Link, data_at}
use Rattle.framing.specs.declared.State.{State}
use Rattle.pcs.specs.Frame.{Typed, with_fields, ok, frame}
use Rattle.pcs.specs.Frame as Frame
use Rattle.pcs.specs.Rules.{Phase, hunting, inside, size, gathered, held, on_byte}
use Rattle.pcs.specs.declared.Message.{Message}

-- the number of each phase: 0 hunting, 1 open
abbrev pub mode_of : Phase → ℕ
mode_of hunting = 0
mode_of (inside g) = 1

-- and the phase of a state: the gathered bytes are the first of the store
abbrev pub phase_of : State → List ℕ → Phase
phase_of s store = cond (eqb s.mode 0) hunting (inside (take s.count store))

-- what a byte leaves at the front of the store: the data of an accepted message, else what is gathered
abbrev pub front_of : Phase × Option (Segment Frame.Message) → List ℕ
front_of (p, none) = gathered p
front_of (p, some (noise bs)) = gathered p
front_of (p, some (refused_frame n bs)) = gathered p
front_of (p, some (accepted_frame m)) = m.payload

-- the numbers told of a message, with so much data
abbrev pub numbers_with : Frame.Message → ℕ → Message
numbers_with m n =
    record {
      receiver = m.receiver;
      sender = m.sender;
      kind = m.kind;
      number = m.number;
      sender_port = m.sender_port;
      receiver_port = m.receiver_port;
      crc = m.crc;
      length = n;
    }

abbrev pub numbers_of : Frame.Message → Message
numbers_of m = numbers_with m (length m.payload)

-- and back: the message of such numbers, with its data
abbrev pub with_data : Message → List ℕ → Frame.Message
with_data m d = with_fields m.receiver m.sender m.kind m.number m.sender_port m.receiver_port m.crc d

-- the data of a message: the part of the store from place 0
abbrev pub data_of : List ℕ → Message → List ℕ
data_of store m = data_at store 0 m.length

-- the message that a caller has of its numbers and the store
abbrev pub message_of : List ℕ → Message → Frame.Message
message_of store m = with_data m (data_of store m)

-- the link: two modes, of which the first hunts
abbrev pub link : Link
link =
    record {
      Message = Frame.Message;
      Typed = Typed;
      ok = ok;
      frame = frame;
      Phase = Phase;
      hunting = hunting;
      on_byte = on_byte;
      gathered = gathered;
      held = held;
      size = size;
      State = State;
      fresh = fresh_state;
      known = known_state 2 1 size;
      noise = λ s. s.noise;
      «open» = λ s. s.«open»;
      phase_of = phase_of;
      state_after = state_after mode_of gathered held;
      front = λ p b. front_of (on_byte p b);
      Numbers = Message;
      numbers_of = numbers_of;
      message_of = message_of;
    }
