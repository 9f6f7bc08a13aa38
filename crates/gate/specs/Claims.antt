-- What is claimed of the exchange, from its rules. proofs/Theorems.antt proves it.
use Rattle.std.specs.Prelude.{◌≡◌, ℕ, ◌+◌, ◌%◌, ◌^◌, ◌<◌, ◌≤◌, Bool, true, false, cond, ◌↔◌, List, [], ◌∷◌, ◌++◌, length, take, ◌≢◌, slice_index}
use Rattle.std.proofs.Math.Option.{Option, none, some, map}
use Rattle.runs.specs.Runs.{Bytes}
use Rattle.framing.specs.Answer as Answer
use Rattle.framing.specs.Receiver.{emit, join}
use Rattle.framing.specs.Link.{Lent, Told, refused, write_on, receives}
use Rattle.framing.specs.Claims.{AllOf}
use Rattle.expansion.specs.Frame.{ok, frame}
use Rattle.expansion.specs.Frame as Frame
use Rattle.expansion.specs.Rules.{size}
use Rattle.expansion.specs.Contract.{link}
use Rattle.expansion.specs.Claims.{gathered_before, RefusedFrame, after_stream}
use Rattle.expansion.specs.declared.Message.{Message}
use Rattle.gate.specs.Asking.{Exchange, Step, start, tick, arrival, Asked, send, done, gave_up, nothing, fresh_exchange, known, wait_over, asks}
use Rattle.gate.specs.Asking as Asking
use Rattle.gate.specs.Responder.{Responder, reply, responds}

-- the id and the repeat of a request that is sent
abbrev pub request_of : Asked → Option (ℕ × ℕ)
request_of (send id repeat) = some (id, repeat)
request_of done = none
request_of gave_up = none
request_of nothing = none
request_of (Asking.refused n) = none

-- the id of a start that is taken
abbrev pub start_of : Step → Asked → Option ℕ
start_of (start now) a = map (λ m. m.0) (request_of a)
start_of (tick now) a = none
start_of (arrival id kind now) a = none

-- over any steps, in any order: the state after them, the requests that are sent, and the ids of the starts that are taken
unfoldable pub after : Exchange → List Step → Exchange
after e [] = e
after e (s ∷ ss) = after (asks e s).1 ss

unfoldable pub requests : Exchange → List Step → List (ℕ × ℕ)
requests e [] = []
requests e (s ∷ ss) = emit (request_of (asks e s).0) (requests (asks e s).1 ss)

unfoldable pub starts : Exchange → List Step → List ℕ
starts e [] = []
starts e (s ∷ ss) = emit (start_of s (asks e s).0) (starts (asks e s).1 ss)

-- the repeat stays at most 3, and no request is sent with more, whatever stood in the state at first
abbrev pub RepeatAtMost3 : Type 0
RepeatAtMost3 =
    (e : Exchange) (ss : List Step) → (e.repeat ≤ 3 → (after e ss).repeat ≤ 3) × AllOf (λ (m : ℕ × ℕ). m.1 ≤ 3) (requests e ss)

-- from a start on, for as long as no other start is taken, at most four requests are sent
abbrev pub FourSends : Type 0
FourSends =
    (e : Exchange) (now : ℕ) (ss : List Step) → starts (asks e (start now)).1 ss ≡ [] → length (requests e (start now ∷ ss)) ≤ 4

-- start number n that is taken, counted from 0, sends id n modulo 256
abbrev pub IdsGoRound : Type 0
IdsGoRound = (ss : List Step) (n : ℕ) → n < length (starts fresh_exchange ss) → slice_index (starts fresh_exchange ss) n ≡ n % 256

-- a reply with another id than the state's tells nothing, or 12, and changes nothing
abbrev pub OtherIdChangesNothing : Type 0
OtherIdChangesNothing =
    (e : Exchange) (id kind now : ℕ) → (id ≢ e.id) → asks e (arrival id kind now) ≡ (cond (known e) nothing (Asking.refused 12), e)

-- so many milliseconds behind sent, going round, a wait is over exactly when they are at least 100
abbrev pub WaitOverIff : Type 0
WaitOverIff =
    (sent later : ℕ) → sent < 2 ^ 32 → later < 2 ^ 32 → (wait_over ((sent + later) % 2 ^ 32) sent ≡ true) ↔ (100 ≤ later)

-- a message that may be sent and takes at most 18 wire bytes: the writer never answers it with 3
pub record Sendable (m : Frame.Message) : Type 0 where
  pub may : ok m ≡ true
  pub short : length (frame m) ≤ 18
  pub never3 : (memory : List ℕ) → (write_on link m memory).0 ≢ Answer.refused 3

-- every reply is such a message
abbrev pub ReplySendable : Type 0
ReplySendable =
    (head : Bool) (a : Responder) (t : Told Message) (store : List ℕ) (m : Frame.Message)
    → (responds a head t store).reply ≡ some m → Sendable m

-- where the receiver tells 8, what is made of its answer and of the store after the call is a check error with the id and, from the head, the
-- address of the gathered bytes of the refused frame, which are at least eight
abbrev pub CheckErrorAsGathered : Type 0
CheckErrorAsGathered =
    (head : Bool) (a : Responder) (c : Lent link) (piece : List ℕ)
    → let call = receives link c piece in
    let g = gathered_before c piece in
    call.0 ≡ refused 8
    → (8 ≤ length g)
    × (responds a head call.0 call.2.1
    ≡ record { reply = some (reply head (slice_index g 0) 2 (slice_index g 3)); hands_out = false; after = a })

-- in a stream, cut anywhere, that a fresh receiver reads, they are the id and the address that the refused frame has on the wire
abbrev pub CheckErrorAsSent : Type 0
CheckErrorAsSent =
    (head : Bool) (a : Responder) (pieces : List (List ℕ)) (piece store : List ℕ) → Bytes (join pieces ++ piece) → size ≤ length store
    → let call = receives link (after_stream pieces store) piece in
    call.0 ≡ refused 8
    → (g : List ℕ)
    × RefusedFrame (join pieces ++ take call.1 piece) call.2.1 g
    × (responds a head call.0 call.2.1
    ≡ record { reply = some (reply head (slice_index g 0) 2 (slice_index g 3)); hands_out = false; after = a })
