-- What the functions of the crate answer: the states of the code as the rules have them, and each case of its types with 01's number and values.
use Rattle.std.specs.Prelude.{ℕ, [], cond, ◌==◌, Result, Ok, Err, Some, None}
use Rattle.std.specs.Prelude as Code
use Rattle.std.proofs.Math.Option.{Option, none, some}
use Rattle.framing.specs.Number.{number_of}
use Rattle.framing.specs.declared.refusal.Refusal.{Refusal}
use Rattle.expansion.specs.Frame as Frame
use Rattle.gate.specs.Asking as Asking
use Rattle.gate.specs.Responder as Responder
use Rattle.gate.specs.Chain as Chain
use Rattle.gate.specs.declared.asking.Exchange.{Exchange}
use Rattle.gate.specs.declared.asking.Asked.{Asked}
use Rattle.gate.specs.declared.asking.Asked.TheVariants.{Send, Done, GaveUp}
use Rattle.gate.specs.declared.kind.Kind.{Kind}
use Rattle.gate.specs.declared.kind.Kind.TheVariants.{Request, Acknowledgement, CheckError}
use Rattle.gate.specs.declared.responding.Responder.{Responder as State}
use Rattle.gate.specs.declared.responding.Reply.{Reply}
use Rattle.gate.specs.declared.responding.Response.{Response}

-- the asking end's state
abbrev pub exchange_of : Exchange → Asking.Exchange
exchange_of e = record { mode = e.mode; id = e.id; repeat = e.repeat; sent = e.sent }

-- each case of what it is told, if anything
abbrev pub case_of : Asked → Asking.Asked
case_of (Send id repeat) = Asking.send id repeat
case_of Done = Asking.done
case_of GaveUp = Asking.gave_up

abbrev pub asked_of : Result (Code.Option Asked) Refusal → Asking.Asked
asked_of (Ok None) = Asking.nothing
asked_of (Ok (Some a)) = case_of a
asked_of (Err r) = Asking.refused (number_of r)

-- the byte of each type of message, and the type that a byte is
abbrev pub type_of : Kind → ℕ
type_of Request = 0
type_of Acknowledgement = 1
type_of CheckError = 2

abbrev pub kind_in : ℕ → Result Kind ℕ
kind_in byte = cond (byte == 0) (Ok Request) (cond (byte == 1) (Ok Acknowledgement) (cond (byte == 2) (Ok CheckError) (Err byte)))

-- the responding end's state
abbrev pub responder_of : State → Responder.Responder
responder_of a = record { handed = a.handed; last = a.last }

-- a reply, if any: a message of this id, type and address, with repeat 0 and no data
abbrev pub reply_of : Code.Option Reply → Option Frame.Message
reply_of None = none
reply_of (Some r) = some (Frame.with_fields r.id (type_of r.kind) 0 r.address [])

-- the answer of the responding end, and its state after
abbrev pub response_of : Response → State → Responder.Response
response_of r a = record { reply = reply_of r.reply; hands_out = r.handed_out; after = responder_of a }

-- a step down the chain: an address to go on with, or none where the frame is meant for here; and a step up, which always goes on
abbrev pub hop_of : Result (Code.Option ℕ) Refusal → Chain.Hop
hop_of (Ok None) = Chain.here
hop_of (Ok (Some address)) = Chain.onward address
hop_of (Err r) = Chain.refused (number_of r)

abbrev pub onward_of : Result ℕ Refusal → Chain.Hop
onward_of (Ok address) = Chain.onward address
onward_of (Err r) = Chain.refused (number_of r)
