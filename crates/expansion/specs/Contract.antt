-- What the functions of the expansion link answer and leave, for every input.
use Rattle.std.specs.Prelude.{ℕ, cond, List, length, take, eqb}
use Rattle.framing.specs.State.{fresh_state, known_state, state_after}
use Rattle.framing.specs.Link.{Link, data_at}
use Rattle.framing.specs.declared.State.{State}
use Rattle.expansion.specs.Frame.{Typed, with_fields, ok, frame}
use Rattle.expansion.specs.Frame as Frame
use Rattle.expansion.specs.Rules.{Phase, hunting, inside, size, gathered, held, on_byte}
use Rattle.expansion.specs.declared.Message.{Message}

-- the number of each phase: 0 hunting, 1 open, 2 open after an FF
abbrev pub mode_of : Phase → ℕ
mode_of hunting = 0
mode_of (inside w g) = cond w 2 1

-- and the phase of a state: the gathered bytes are the first of the store
abbrev pub phase_of : State → List ℕ → Phase
phase_of s store = cond (eqb s.mode 0) hunting (inside (eqb s.mode 2) (take s.count store))

-- the numbers told of a message
abbrev pub numbers_of : Frame.Message → Message
numbers_of m = record { id = m.id; kind = m.kind; repeat = m.repeat; address = m.address; length = length m.payload }

-- the data of a message: the part of the store from place 4
abbrev pub data_of : List ℕ → Message → List ℕ
data_of store m = data_at store 4 m.length

-- the message that a caller has of its numbers and the store
abbrev pub message_of : List ℕ → Message → Frame.Message
message_of store m = with_fields m.id m.kind m.repeat m.address (data_of store m)

-- the link: three modes, of which the first hunts
abbrev pub link : Link
link =
    record {
      Message = Frame.Message;
      Typed = Typed;
      ok = ok;
      frame = frame;
      Phase = Phase;
      hunting = hunting;
      on_byte = on_byte;
      gathered = gathered;
      held = held;
      size = size;
      State = State;
      fresh = fresh_state;
      known = known_state 3 1 size;
      noise = λ s. s.noise;
      «open» = λ s. s.«open»;
      phase_of = phase_of;
      state_after = state_after mode_of gathered held;
      front = λ p b. gathered (on_byte p b).0;
      Numbers = Message;
      numbers_of = numbers_of;
      message_of = message_of;
    }
