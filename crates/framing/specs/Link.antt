-- A link: its messages and frames, the rules of its receiver, and how a state and a store stand for a phase of the rules. From these, what a
-- call of the receiver does for every state, store and piece.
use Rattle.std.specs.Prelude.{ℕ, ◌+◌, Bool, true, false, cond, List, [], length, take, drop, ◌==◌, nat_le}
use Rattle.std.proofs.Math.Option.{Option, none, some}
use Rattle.runs.specs.Runs.{over}
use Rattle.framing.specs.Answer.{Outcome}
use Rattle.framing.specs.Receiver.{Fed, feed}
use Rattle.framing.specs.Segment.{Segment, Event, message, refusal, event_of}
use Rattle.framing.specs.Tests.{call_fault}
use Rattle.framing.specs.Writer.{writes}

pub record Link : Type 1 where
  -- what a writer is called with; that its numbers fit their types; which may be sent; the frame
  pub Message : Type 0
  pub Typed : Message → Type 0
  pub ok : Message → Bool
  pub frame : Message → List ℕ
  -- the rules: the phases, the first one; the phase after a byte and the segment that it closes; the bytes gathered, the wire bytes held
  pub Phase : Type 0
  pub hunting : Phase
  pub on_byte : Phase → ℕ → Phase × Option (Segment Message)
  pub gathered : Phase → List ℕ
  pub held : Phase → List ℕ
  -- the least store, the states, the fresh one, those that do not give 12, their counts of noise and of open wire bytes
  pub size : ℕ
  pub State : Type 0
  pub fresh : State
  pub known : State → Bool
  pub noise : State → ℕ
  pub «open» : State → ℕ
  -- the phase that a state and a store stand for, the state after a byte, and what then stands at the front of the store
  pub phase_of : State → List ℕ → Phase
  pub state_after : State → Phase → Option (Segment Message) → State
  pub front : Phase → ℕ → List ℕ
  -- the numbers that the caller is told of a message, and the message that it then has, its data read in the store
  pub Numbers : Type 0
  pub numbers_of : Message → Numbers
  pub message_of : List ℕ → Numbers → Message

-- what a receiver answers: nothing, the numbers of a message, or the number of a refusal
pub data Told (N : Type 0) : Type 0 where
  nothing : Told N
  accepted : N → Told N
  refused : ℕ → Told N

-- whether it is an event, for the loop over a piece
abbrev pub is_event : {N : Type 0} → Told N → Bool
is_event nothing = false
is_event (accepted v) = true
is_event (refused n) = true

-- the data of a message in a store: n bytes from place k on, or nothing where they do not lie in the store
abbrev pub data_at : List ℕ → ℕ → ℕ → List ℕ
data_at store k n = cond (nat_le (k + n) (length store)) (take n (drop k store)) []

module _ (L : Link) where
  -- a call of the link's writer: what it answers and leaves
  abbrev pub write_on : L.Message → List ℕ → Outcome ℕ × List ℕ
  write_on m memory = writes L.ok L.frame m memory

  -- a state and a store, what a caller of the receiver lends
  abbrev pub Lent : Type 0
  Lent = L.State × List ℕ

  -- what a byte does to them: the front of the store is written, and nothing else
  abbrev pub step_on : Lent → ℕ → Lent × Option (Event L.Message)
  step_on c b =
      let p = L.phase_of c.0 c.1 in
      ((L.state_after c.0 (L.on_byte p b).0 (L.on_byte p b).1, over (L.front p b) c.1), event_of (L.on_byte p b).1)

  -- a refusal that uses no byte and changes nothing
  abbrev pub refuses : ℕ → Lent → Fed (Event L.Message) Lent
  refuses n c = record { event = some (refusal n); used = 0; after = c }

  -- a call: refused with 12 or 1, or byte after byte until one makes an event
  abbrev pub call_on : Lent → List ℕ → Fed (Event L.Message) Lent
  call_on c piece =
      let fault = call_fault (L.known c.0) (nat_le L.size (length c.1)) in
      cond (fault == 0) (feed step_on c piece) (refuses fault c)

  -- an event as it is told, and as the caller has it, the data read in the store after the call
  abbrev pub told : Option (Event L.Message) → Told L.Numbers
  told none = nothing
  told (some (message m)) = accepted (L.numbers_of m)
  told (some (refusal n)) = refused n

  abbrev pub heard_in : List ℕ → Told L.Numbers → Option (Event L.Message)
  heard_in store nothing = none
  heard_in store (accepted v) = some (message (L.message_of store v))
  heard_in store (refused n) = some (refusal n)

  -- what a call answers: what it tells, the bytes used, the state and the store after
  abbrev pub reported : Fed (Event L.Message) Lent → Told L.Numbers × ℕ × Lent
  reported f = (told f.event, f.used, f.after)

  abbrev pub receives : Lent → List ℕ → Told L.Numbers × ℕ × Lent
  receives c piece = reported (call_on c piece)

  -- a call as its caller has it, from the answer alone
  abbrev pub called : Lent → List ℕ → Fed (Event L.Message) Lent
  called c piece =
      let a = receives c piece in
      record { event = heard_in a.2.1 a.0; used = a.1; after = a.2 }
