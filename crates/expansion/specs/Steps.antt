-- What the receiver's private functions answer: the steps of a call.
use Rattle.std.specs.Prelude.{ℕ, ◌≡◌, cond, List, eqb}
use Rattle.std.proofs.Math.Option.{Option}
use Rattle.framing.specs.Answer.{Outcome, done, refused}
use Rattle.framing.specs.Segment.{Segment, event_of}
use Rattle.framing.specs.State.{state_after}
use Rattle.framing.specs.Link.{told}
use Rattle.framing.specs.Call.{told_of}
use Rattle.framing.specs.declared.State.{State}
use Rattle.framing.specs.declared.link.Stepped.{Stepped}
use Rattle.expansion.specs.Frame as Frame
use Rattle.expansion.specs.Rules.{Phase, gathered, held, fault_of, message_in}
use Rattle.expansion.specs.Contract.{mode_of, numbers_of, link}
use Rattle.expansion.specs.declared.Message.{Message}

-- the end of a frame: the numbers told of its message, or the number that it is refused with
abbrev pub judged : List ℕ → Outcome Message
judged g = cond (eqb (fault_of g) 0) (done (numbers_of (message_in g))) (refused (fault_of g))

-- what is answered of a byte by what the rules give: the phase after it, and the segment that it closes
pub record ByRules (s : State) (c : Phase × Option (Segment Frame.Message)) (r : Stepped Message State) : Type 0 where
  pub tells : told_of r.told ≡ told link (event_of c.1)
  pub state : r.state ≡ state_after mode_of gathered held s c.0 c.1
