-- The responding end of the gate exchange: what it does with what the expansion receiver told it, for every state, answer and store.
use Rattle.std.specs.Prelude.{ℕ, Bool, true, false, cond, ◌&&◌, List, [], length, ◌==◌, nat_le, nat_lt, slice_index}
use Rattle.std.proofs.Math.Option.{Option, none, some}
use Rattle.framing.specs.Link.{Told, nothing, accepted, refused}
use Rattle.expansion.specs.Frame as Frame
use Rattle.expansion.specs.declared.Message.{Message}

-- whether a request was handed out, and the id of the last one
pub record Responder : Type 0 where
  pub handed : Bool
  pub last : ℕ

-- the reply to send, if any; whether the request is handed out; the state after
pub record Response : Type 0 where
  pub reply : Option Frame.Message
  pub hands_out : Bool
  pub after : Responder

abbrev pub fresh_responder : Responder
fresh_responder = record { handed = false; last = 0 }

-- a reply has repeat 0 and no data; its address is 0 from a board, and from the head the one that arrived
abbrev pub reply : (head : Bool) → (id kind address : ℕ) → Frame.Message
reply head id kind address = Frame.with_fields id kind 0 (cond head address 0) []

-- no reply, and nothing handed out
abbrev pub silent : Responder → Response
silent a = record { reply = none; hands_out = false; after = a }

-- a request that was handed out before: its id is the last handed out, and its repeat is above 0
abbrev pub is_repeated : Responder → (id repeat : ℕ) → Bool
is_repeated a id repeat = a.handed && (id == a.last && nat_lt 0 repeat)

-- whether a request is handed out, and the state after: not if it is repeated
abbrev pub hand_out : Responder → (id repeat : ℕ) → Bool × Responder
hand_out a id repeat = cond (is_repeated a id repeat) (false, a) (true, record { handed = true; last = id })

-- an accepted request is acknowledged by type 1, handed out or not
abbrev pub acknowledges : Responder → Bool → Message → Response
acknowledges a head m =
    record {
      reply = some (reply head m.id 1 m.address);
      hands_out = (hand_out a m.id m.repeat).0;
      after = (hand_out a m.id m.repeat).1;
    }

-- the answer to an 8: a check error with the gathered id, which stands at place 0 of the store; the gathered address stands at place 3
abbrev pub reports : Responder → Bool → List ℕ → Response
reports a head store = record { reply = some (reply head (slice_index store 0) 2 (slice_index store 3)); hands_out = false; after = a }

-- an accepted frame: a request is acknowledged; types 1 and 2 are not for this end
abbrev pub accepts : Responder → Bool → Message → Response
accepts a head m = cond (m.kind == 0) (acknowledges a head m) (silent a)

-- a refused frame: 8 is answered, but not out of a store below four bytes (which the papers leave free); other numbers get no reply
abbrev pub refuses : Responder → Bool → ℕ → List ℕ → Response
refuses a head n store = cond (n == 8 && nat_le 4 (length store)) (reports a head store) (silent a)

-- what the receiver told, with the store as its call left it
abbrev pub responds : Responder → Bool → Told Message → List ℕ → Response
responds a head nothing store = silent a
responds a head (accepted m) store = accepts a head m
responds a head (refused n) store = refuses a head n store
