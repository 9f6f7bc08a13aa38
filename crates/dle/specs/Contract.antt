-- What the functions of the DLE link answer and leave, for every input.
use Rattle.std.specs.Prelude.{ℕ, cond, List, length, take, eqb}
use Rattle.framing.specs.State.{fresh_state, known_state, state_after}
use Rattle.framing.specs.Link.{Link, data_at}
use Rattle.framing.specs.declared.State.{State}
use Rattle.dle.specs.Frame.{content, error, Typed, ok, frame}
use Rattle.dle.specs.Frame as Frame
use Rattle.dle.specs.Rules.{Phase, hunting, half, inside, size, gathered, held, on_byte}
use Rattle.dle.specs.declared.Message.{Message}

-- the number of each phase: 0 and, behind a 10, 1 hunting; 2 and, behind a 10, 3 open
abbrev pub mode_of : Phase → ℕ
mode_of hunting = 0
mode_of half = 1
mode_of (inside w g) = cond w 3 2

-- and the phase of a state: the gathered bytes are the first of the store
abbrev pub phase_of : State → List ℕ → Phase
phase_of s store = cond (eqb s.mode 0) hunting (cond (eqb s.mode 1) half (inside (eqb s.mode 3) (take s.count store)))

-- the numbers told of a message; an error message has length 0
abbrev pub numbers_of : Frame.Message → Message
numbers_of (content s n d) = record { sequence = s; node = n; length = length d; error = 0 }
numbers_of (error s n e) = record { sequence = s; node = n; length = 0; error = e }

-- the data of a message: the part of the store from place 3
abbrev pub data_of : List ℕ → Message → List ℕ
data_of store m = data_at store 3 m.length

-- the message that a caller has of its numbers and the store
abbrev pub message_of : List ℕ → Message → Frame.Message
message_of store m = cond (eqb m.length 0) (error m.sequence m.node m.error) (content m.sequence m.node (data_of store m))

-- the link: four modes, of which the first two hunt
abbrev pub link : Link
link =
    record {
      Message = Frame.Message;
      Typed = Typed;
      ok = ok;
      frame = frame;
      Phase = Phase;
      hunting = hunting;
      on_byte = on_byte;
      gathered = gathered;
      held = held;
      size = size;
      State = State;
      fresh = fresh_state;
      known = known_state 4 2 size;
      noise = λ s. s.noise;
      «open» = λ s. s.«open»;
      phase_of = phase_of;
      state_after = state_after mode_of gathered held;
      front = λ p b. gathered (on_byte p b).0;
      Numbers = Message;
      numbers_of = numbers_of;
      message_of = message_of;
    }
