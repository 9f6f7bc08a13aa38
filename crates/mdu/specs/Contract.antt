-- What the functions of the MDU link answer and leave, for every input.
use Rattle.std.specs.Prelude.{ℕ, ◌+◌, Bool, true, cond, ◌&&◌, List, [], ◌∷◌, ◌++◌, length, take, ◌==◌, nat_le, nat_lt}
use Rattle.std.proofs.Math.Option.{Option}
use Rattle.framing.specs.Segment.{Segment}
use Rattle.framing.specs.State as Shared
use Rattle.framing.specs.Link.{Link, data_at}
use Rattle.mdu.specs.Frame.{Typed, length_ok, ok, frame}
use Rattle.mdu.specs.Frame as Frame
use Rattle.mdu.specs.Rules.{Phase, hunting, in_header, in_body, size, gathered, held, on_byte}
use Rattle.mdu.specs.declared.State.{State}
use Rattle.mdu.specs.declared.Message.{Message}

abbrev pub fresh_state : State
fresh_state = record { base = Shared.fresh_state; length = 0 }

-- a state that does not give 12: by the shared rule, with two modes of which the first hunts; an open frame has gathered bytes, and from six on
-- a length that may be and bytes still to come
abbrev pub known_state : State → Bool
known_state s =
    Shared.known_state 2 1 size s.base
    && cond (s.base.mode == 0) true
    (cond (nat_lt s.base.count 6) (nat_le 1 s.base.count) (length_ok s.length && nat_lt s.base.count (8 + s.length)))

-- the number of each phase: 0 hunting, 1 open; and the length that the state keeps
abbrev pub mode_of : Phase → ℕ
mode_of hunting = 0
mode_of (in_header g) = 1
mode_of (in_body k g) = 1

abbrev pub length_of : Phase → ℕ
length_of hunting = 0
length_of (in_header g) = 0
length_of (in_body k g) = k

-- the phase of a state: the gathered bytes are the first of the store
abbrev pub phase_of : State → List ℕ → Phase
phase_of s store =
    cond (s.base.mode == 0) hunting
    (cond (nat_lt s.base.count 6) (in_header (take s.base.count store)) (in_body s.length (take s.base.count store)))

abbrev pub state_after : State → Phase → Option (Segment Frame.Message) → State
state_after s p o = record { base = Shared.state_after mode_of gathered held s.base p o; length = length_of p }

-- the byte that makes an event is gathered too
abbrev pub front : Phase → ℕ → List ℕ
front hunting b = cond (b == 0xE3) (b ∷ []) []
front (in_header g) b = g ++ (b ∷ [])
front (in_body k g) b = g ++ (b ∷ [])

-- the numbers told of a message
abbrev pub numbers_of : Frame.Message → Message
numbers_of m = record { address = m.address; length = length m.body }

-- the body of a message: the part of the store from place 6
abbrev pub data_of : List ℕ → Message → List ℕ
data_of store m = data_at store 6 m.length

-- the message that a caller has of its numbers and the store
abbrev pub message_of : List ℕ → Message → Frame.Message
message_of store m = record { address = m.address; body = data_of store m }

abbrev pub link : Link
link =
    record {
      Message = Frame.Message;
      Typed = Typed;
      ok = ok;
      frame = frame;
      Phase = Phase;
      hunting = hunting;
      on_byte = on_byte;
      gathered = gathered;
      held = held;
      size = size;
      State = State;
      fresh = fresh_state;
      known = known_state;
      noise = λ s. s.base.noise;
      «open» = λ s. s.base.«open»;
      phase_of = phase_of;
      state_after = state_after;
      front = front;
      Numbers = Message;
      numbers_of = numbers_of;
      message_of = message_of;
    }
