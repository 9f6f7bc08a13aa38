-- What a run is read as: refused as PCS refuses a whole frame, then with 21 outside the profile.
use Rattle.std.specs.Prelude.{ℕ, cond, List}
use Rattle.framing.specs.Answer.{Outcome, done, refused}
use Rattle.framing.specs.Whole.{read_on}
use Rattle.pcs.specs.Frame as Pcs
use Rattle.pcs.specs.Contract.{link}
use Rattle.pcs.specs.Contract as Contract
use Rattle.pcs.specs.declared.Message.{Message}
use Rattle.display.specs.Profile.{in_profile, order_of}
use Rattle.display.specs.declared.Order.{Order}

-- a PCS message is read as its order, or refused with 21
abbrev pub judged : Pcs.Message → Outcome Order
judged m = cond (in_profile m) (done (order_of m)) (refused 21)

-- what PCS answers of the run comes first; a message has its data in the store that this call left
abbrev pub ordered : List ℕ → Outcome Message → Outcome Order
ordered store (done v) = judged (Contract.message_of store v)
ordered store (refused n) = refused n

-- the answer, and the store afterwards, which is as PCS leaves it on every path
abbrev pub reading : List ℕ → List ℕ → Outcome Order × List ℕ
reading run store = (ordered (read_on link run store).1 (read_on link run store).0, (read_on link run store).1)
