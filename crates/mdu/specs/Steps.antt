-- What the receiver's private functions answer: the steps of a call. `Ready` and `Due` are also what `advance` and `step` test.
use Rattle.std.specs.Prelude.{◌≡◌, ℕ, ◌+◌, ◌%◌, ◌^◌, ◌<◌, ◌≤◌, true, List, length, Result, Ok, None}
use Rattle.std.specs.Prelude as Code
use Rattle.std.proofs.Math.Option.{Option}
use Rattle.framing.specs.Segment.{Segment, event_of}
use Rattle.framing.specs.Link.{Lent, told, step_on}
use Rattle.framing.specs.Call.{told_of}
use Rattle.framing.specs.Passing.{Leads}
use Rattle.framing.specs.declared.State as Base
use Rattle.framing.specs.declared.Reached.{Reached}
use Rattle.framing.specs.declared.link.Stepped.{Stepped}
use Rattle.framing.specs.declared.refusal.Refusal.{Refusal}
use Rattle.mdu.specs.Frame.{length_ok}
use Rattle.mdu.specs.Frame as Frame
use Rattle.mdu.specs.Rules.{Phase, size}
use Rattle.mdu.specs.Contract.{known_state, state_after, link}
use Rattle.mdu.specs.declared.State.{State}
use Rattle.mdu.specs.declared.Message.{Message}

-- the frame is over
abbrev pub ended_with : Base.State → Result (Code.Option Message) Refusal → Stepped Message State
ended_with base told =
    record { told = told; state = record { base = record { mode = 0; count = 0; «open» = 0; noise = base.noise }; length = 0 } }

-- one more wire byte is held, and the frame goes on
abbrev pub gone_on : Base.State → ℕ → ℕ → Stepped Message State
gone_on base count stated =
    record {
      told = Ok None;
      state = record { base = record { mode = 1; count = count; «open» = (base.«open» + 1) % 2 ^ 32; noise = base.noise }; length = stated };
    }

-- what is answered of a byte by what the rules give: the phase after it, and the segment that it closes
pub record ByRules (s : State) (c : Phase × Option (Segment Frame.Message)) (r : Stepped Message State) : Type 0 where
  pub tells : told_of r.told ≡ told link (event_of c.1)
  pub state : r.state ≡ state_after s c.0 c.1

-- a frame is open, with a store of the link's size
pub record Open (s : State) (store : List ℕ) : Type 0 where
  pub mode : s.base.mode ≡ 1
  pub room : size ≤ length store

-- of a frame with a body of k, n bytes are gathered: the header, and not all
pub record ToCome (k n : ℕ) : Type 0 where
  pub allowed : length_ok k ≡ true
  pub low : 6 ≤ n
  pub high : n < 8 + k
  pub most : k ≤ 1025

-- a call reads, with a known state and a store of the link's size
abbrev pub Ready : State → List ℕ → Type 0
Ready s store = (known_state s ≡ true) × (size ≤ length store)

-- a state whose frame, from six bytes on, wants its last byte only
abbrev pub AtLast : State → Type 0
AtLast s = 6 ≤ s.base.count → s.base.count ≡ 7 + s.length

-- a byte is taken, of a body only the last
abbrev pub Due : State → List ℕ → Type 0
Due s store = Ready s store × AtLast s

-- from place i of a piece so many bytes are passed at once, without an event; where bytes are left, a body is at its last
pub record Passes (piece : List ℕ) (c : Lent link) (i : ℕ) (r : Reached State) (after : List ℕ) : Type 0 where
  pub leads : Leads (step_on link) piece c i (r.state, after) r.next
  pub known : known_state r.state ≡ true
  pub at_last : r.next < length piece → AtLast r.state
