-- An open frame of a receiver with the shared state, its bytes gathered at the front of the store. This serves the contracts of functions that
-- links share.
use Rattle.std.specs.Prelude.{ℕ, ◌+◌, ◌%◌, ◌^◌, cond, List, set, ◌≤◌, length, nat_lt}
use Rattle.framing.specs.Answer.{Outcome, done}
use Rattle.framing.specs.Answer as Answer
use Rattle.framing.specs.Link.{Told, nothing, accepted, refused}
use Rattle.framing.specs.declared.State.{State}

-- a state and a store that bytes may come to: no more is counted than the link's size, and the store has room for it
pub record Room (size : ℕ) (s : State) (store : List ℕ) : Type 0 where
  pub count : s.count ≤ size
  pub room : size ≤ length store

-- one more wire byte is open, and so many bytes are gathered
abbrev pub held_in : State → ℕ → ℕ → State
held_in s mode count = record { mode = mode; count = count; «open» = (s.«open» + 1) % 2 ^ 32; noise = s.noise }

-- the frame is over
abbrev pub closed : State → State
closed s = record { mode = 0; count = 0; «open» = 0; noise = s.noise }

-- what becomes of state and store, and what is told, by one more byte: it is gathered, or refused with 5 where it is one too many
abbrev pub gathered_byte : {N : Type 0} → ℕ → ℕ → State → List ℕ → ℕ → (State × List ℕ) × Told N
gathered_byte size mode s store b =
    cond (nat_lt s.count size) ((held_in s mode (s.count + 1), set store s.count b), nothing) ((closed s, store), refused 5)

-- a frame that is read as a message or refused, as it is told
abbrev pub heard : {N : Type 0} → Outcome N → Told N
heard (done v) = accepted v
heard (Answer.refused n) = refused n
