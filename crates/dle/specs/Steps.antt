-- What the receiver's private functions answer: the steps of a call.
use Rattle.std.specs.Prelude.{ℕ, ◌≤◌, ◌≡◌, cond, List, eqb}
use Rattle.std.proofs.Math.Option.{Option}
use Rattle.framing.specs.Answer.{Outcome, done, refused}
use Rattle.framing.specs.Segment.{Segment, event_of}
use Rattle.framing.specs.State.{state_after}
use Rattle.framing.specs.Link.{Lent, step_on, told}
use Rattle.framing.specs.Call.{told_of}
use Rattle.framing.specs.Passing.{Leads}
use Rattle.framing.specs.declared.State.{State}
use Rattle.framing.specs.declared.Reached.{Reached}
use Rattle.framing.specs.declared.link.Stepped.{Stepped}
use Rattle.dle.specs.Frame as Frame
use Rattle.dle.specs.Rules.{Phase, size, gathered, held, fault_of, message_in}
use Rattle.dle.specs.Contract.{mode_of, numbers_of, link}
use Rattle.dle.specs.declared.Message.{Message}

-- the end of a frame: the numbers told of its message, or the number that it is refused with
abbrev pub judged : List ℕ → Outcome Message
judged g = cond (eqb (fault_of g) 0) (done (numbers_of (message_in g))) (refused (fault_of g))

-- what is answered of a byte by what the rules give: the phase after it, and the segment that it closes
pub record ByRules (s : State) (c : Phase × Option (Segment Frame.Message)) (r : Stepped Message State) : Type 0 where
  pub tells : told_of r.told ≡ told link (event_of c.1)
  pub state : r.state ≡ state_after mode_of gathered held s c.0 c.1

-- from place i of a piece so many bytes are passed at once, without an event
pub record Passes (piece : List ℕ) (c : Lent link) (i : ℕ) (r : Reached State) (after : List ℕ) : Type 0 where
  pub leads : Leads (step_on link) piece c i (r.state, after) r.next
  pub count : r.state.count ≤ size
