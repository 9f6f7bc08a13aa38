-- What is claimed of orders and of the display's end. proofs/Theorems.antt proves it.
use Rattle.std.specs.Prelude.{ℕ, ◌-◌, ◌≤◌, ◌<◌, ◌≡◌, ◌↔◌, true, false, ◌||◌, List, [], ◌∷◌, ◌++◌, eqb, length, take, replicate}
use Rattle.runs.specs.Runs.{Bytes, over}
use Rattle.framing.specs.Answer.{done, refused}
use Rattle.framing.specs.Writer.{writes}
use Rattle.framing.specs.Claims.{AllOf}
use Rattle.framing.specs.Whole.{read_on}
use Rattle.framing.specs.Refusals.{is_in}
use Rattle.decimal.specs.Decimal.{decimal}
use Rattle.pcs.specs.Frame.{Message, Typed, ok, frame, plain_ok}
use Rattle.pcs.specs.Rules.{size}
use Rattle.pcs.specs.Contract.{link}
use Rattle.pcs.specs.declared.Message as Read
use Rattle.display.specs.Profile.{largest, message_of, order_ok, order_frame, in_profile, order_of}
use Rattle.display.specs.Reading.{reading}
use Rattle.display.specs.End.{last_three, shown_of, fresh_display, showing, taking, answer_to, Reply, nothing, answer, refusal, takes}
use Rattle.display.specs.declared.Order.{Order}
use Rattle.display.specs.declared.Display.{Display}

-- ---- orders and their frames

-- the profile is the messages of orders of at most eight digits, and no others
abbrev pub ProfileIs : Type 0
ProfileIs = (m : Message) → (in_profile m ≡ true) ↔ ((o : Order) × (o.value ≤ largest) × (message_of o ≡ m))

-- written reads back: an order that may be sent, in memory that holds its frame, is written there, and what was written is read as that order
abbrev pub WrittenReads : Type 0
WrittenReads =
    (o : Order) (memory store : List ℕ) → order_ok o ≡ true → length (order_frame o) ≤ length memory → size ≤ length store
    → (writes order_ok order_frame o memory ≡ (done (length (order_frame o)), over (order_frame o) memory))
    × ((reading (take (length (order_frame o)) (writes order_ok order_frame o memory).1) store).0 ≡ done o)

-- accepted is the writer's own frame: a run that is read as an order is exactly what the writer writes for that order
abbrev pub AcceptedWritten : Type 0
AcceptedWritten =
    (run store : List ℕ) (o : Order) → Bytes run → (reading run store).0 ≡ done o
    → (order_ok o ≡ true) × (run ≡ order_frame o)
    × ((memory : List ℕ) → length run ≤ length memory → writes order_ok order_frame o memory ≡ (done (length run), over run memory))

-- of the frames of PCS those of the profile are read as their orders, and every other gives 21, whoever it is for
abbrev pub FramesJudged : Type 0
FramesJudged =
    (m : Message) (store : List ℕ) → Typed m → ok m ≡ true → size ≤ length store
    → (in_profile m ≡ true → (reading (frame m) store).0 ≡ done (order_of m))
    × (in_profile m ≡ false → (reading (frame m) store).0 ≡ refused 21)

-- 99,999,999 is the largest value: an order for it may be sent, and one for a value more may not
abbrev pub Limits : Type 0
Limits =
    (order_ok (record { receiver = 1; sender = 1; number = 1; value = 99999999 }) ≡ true)
    × ((o : Order) → 100000000 ≤ o.value → order_ok o ≡ false)

-- ---- the numbers of refusals

-- a read is refused with the numbers of a whole PCS frame and with 21; a display's take with these, with 3 and with 2
abbrev pub read_refusals : List ℕ
read_refusals = 1 ∷ 4 ∷ 5 ∷ 6 ∷ 8 ∷ 9 ∷ 10 ∷ 13 ∷ 21 ∷ []

abbrev pub take_refusals : List ℕ
take_refusals = 3 ∷ 2 ∷ read_refusals

-- some read is refused with n
pub record ReadGives (n : ℕ) : Type 0 where
  pub run : List ℕ
  pub store : List ℕ
  pub bytes : Bytes run
  pub answers : (reading run store).0 ≡ refused n

-- some take is refused with n
pub record TakeGives (n : ℕ) : Type 0 where
  pub display : Display
  pub run : List ℕ
  pub store : List ℕ
  pub memory : List ℕ
  pub bytes : Bytes run
  pub replies : (takes display run store memory).0.0 ≡ refusal n

-- each gives exactly its numbers, and a write 3 and 2 at most
abbrev pub ReadsGive : Type 0
ReadsGive = (n : ℕ) → (is_in n read_refusals ≡ true) ↔ ReadGives n

abbrev pub TakesGive : Type 0
TakesGive = (n : ℕ) → (is_in n take_refusals ≡ true) ↔ TakeGives n

abbrev pub WritesGive : Type 0
WritesGive = (o : Order) (memory : List ℕ) (n : ℕ) → (writes order_ok order_frame o memory).0 ≡ refused n → is_in n (3 ∷ 2 ∷ []) ≡ true

-- ---- what is shown

-- three places: the last three of the digits, behind as many spaces as are missing
abbrev pub ShownLast : Type 0
ShownLast = (v : ℕ) → (length (shown_of v) ≡ 3) × (shown_of v ≡ replicate (3 - length (decimal v)) 32 ++ last_three (decimal v))

-- 7, 45, 12345, 1005 and 0
abbrev pub ShownExamples : Type 0
ShownExamples =
    (shown_of 7 ≡ 32 ∷ 32 ∷ 55 ∷ []) × (shown_of 45 ≡ 32 ∷ 52 ∷ 53 ∷ []) × (shown_of 12345 ≡ 51 ∷ 52 ∷ 53 ∷ [])
    × (shown_of 1005 ≡ 48 ∷ 48 ∷ 53 ∷ []) × (shown_of 0 ≡ 32 ∷ 32 ∷ 48 ∷ [])

-- ---- the display's end

-- in this order: 3 for an own address that is not allowed, where neither run, store nor memory is looked at; what PCS refuses, with its number, and
-- then every message outside the profile with 21. The store is always as the read of PCS leaves it, but for 3
pub record InOrder (d : Display) (run store memory : List ℕ) : Type 0 where
  pub own_first : plain_ok d.own ≡ false → takes d run store memory ≡ ((refusal 3, d), store, memory)
  pub then_pcs : plain_ok d.own ≡ true → (n : ℕ) → (read_on link run store).0 ≡ refused n → (takes d run store memory).0.0 ≡ refusal n
  pub then_outside : plain_ok d.own ≡ true → (m : Message) → run ≡ frame m → Typed m → ok m ≡ true → size ≤ length store
      → in_profile m ≡ false → (takes d run store memory).0.0 ≡ refusal 21
  pub store-left : plain_ok d.own ≡ true → (takes d run store memory).1 ≡ (read_on link run store).1

abbrev pub TakesInOrder : Type 0
TakesInOrder = (d : Display) (run store memory : List ℕ) → InOrder d run store memory

-- every refusal leaves the whole display, and the memory for the answer, as they were
abbrev pub RefusedKeeps : Type 0
RefusedKeeps =
    (d : Display) (run store memory : List ℕ) (n : ℕ) → (takes d run store memory).0.0 ≡ refusal n
    → ((takes d run store memory).0.1 ≡ d) × ((takes d run store memory).2 ≡ memory)

-- and so does a reply of nothing leave the memory: nothing is stored there that is not sent
abbrev pub SilentKeeps : Type 0
SilentKeeps =
    (d : Display) (run store memory : List ℕ) → (takes d run store memory).0.0 ≡ nothing
    → (takes d run store memory).2 ≡ memory

-- an order is refused exactly if it is for this display and its answer of 11 bytes does not fit, with 2; so never one for everybody or for another
abbrev pub RefusedShort : Type 0
RefusedShort =
    (d : Display) (run store memory : List ℕ) (o : Order) (n : ℕ) → plain_ok d.own ≡ true → (reading run store).0 ≡ done o
    → ((takes d run store memory).0.0 ≡ refusal n) ↔ ((o.receiver ≡ d.own) × (length memory < 11) × (n ≡ 2))

-- the answer reads back. Where one of n bytes is given, the run was read as an order for this display, which is taken; the answer is 11 bytes at
-- the start of the memory, and PCS reads them as kind 2 without CRC, the order's number, ports 1 and turned addresses
abbrev pub answer_read : Display → Order → Read.Message
answer_read d o =
    record {
      receiver = o.sender;
      sender = d.own;
      kind = 2;
      number = o.number;
      sender_port = 1;
      receiver_port = 1;
      crc = false;
      length = 0;
    }

pub record Answered (d : Display) (run store memory : List ℕ) (n : ℕ) : Type 0 where
  pub order : Order
  pub read : (reading run store).0 ≡ done order
  pub own : order.receiver ≡ d.own
  pub count : n ≡ 11
  pub after : (takes d run store memory).0.1 ≡ taking d order
  pub left : (takes d run store memory).2 ≡ over (frame (answer_to order)) memory
  pub back : (other : List ℕ) → size ≤ length other
      → (read_on link (take n (takes d run store memory).2) other).0 ≡ done (answer_read d order)

abbrev pub AnswerReads : Type 0
AnswerReads =
    (d : Display) (run store memory : List ℕ) (n : ℕ) → Bytes run → (takes d run store memory).0.0 ≡ answer n
    → Answered d run store memory n

-- a repeat, an order with the sender and the number of the last one taken, changes nothing, whatever its value and whether it is for this display
-- or for everybody; one for this display is answered as any other
abbrev pub RepeatAnswered : Type 0
RepeatAnswered =
    (d : Display) (run store memory : List ℕ) (o : Order) → plain_ok d.own ≡ true → (reading run store).0 ≡ done o
    → d.taken ≡ true → o.sender ≡ d.sender → o.number ≡ d.number
    → ((takes d run store memory).0.1 ≡ d)
    × (o.receiver ≡ d.own → 11 ≤ length memory
    → ((takes d run store memory).0.0 ≡ answer 11) × ((takes d run store memory).2 ≡ over (frame (answer_to o)) memory))

-- any other order is taken, one for this display where its answer fits, which is given, one for everybody without an answer: it is then the last one
-- taken, and its value is shown
abbrev pub NewTaken : Type 0
NewTaken =
    (d : Display) (run store memory : List ℕ) (o : Order) → plain_ok d.own ≡ true → (reading run store).0 ≡ done o
    → (d.taken ≡ true → o.sender ≡ d.sender → o.number ≡ d.number → ⊥)
    → (o.receiver ≡ d.own → 11 ≤ length memory → (takes d run store memory).0 ≡ (answer 11, showing d o))
    × (o.receiver ≡ 255 → (takes d run store memory).0 ≡ (nothing, showing d o))

-- a call of the display's end: the run, the store and the memory lent
pub record Call : Type 0 where
  pub run : List ℕ
  pub store : List ℕ
  pub memory : List ℕ

abbrev pub call : Display → Call → Reply × Display
call d c = (takes d c.run c.store c.memory).0

-- the display after a list of calls
unfoldable pub after : Display → List Call → Display
after d [] = d
after d (c ∷ cs) = after (call d c).1 cs

-- the run of a call is no order for this display or for everybody: it is for another, or refused
abbrev pub ForOthers : Display → Call → Type 0
ForOthers d c = (o : Order) → (reading c.run c.store).0 ≡ done o → (o.receiver ≡ d.own → ⊥) × (o.receiver ≡ 255 → ⊥)

-- such calls change nothing
abbrev pub OthersPass : Type 0
OthersPass = (d : Display) (cs : List Call) → AllOf (ForOthers d) cs → after d cs ≡ d

-- taking a frame twice is taking it once, with any calls for others between: the display stays as the first left it, and where store and memory
-- are long enough the reply is that of the first
abbrev pub TakenOnce : Type 0
TakenOnce =
    (d : Display) (c : Call) (cs : List Call) (store memory : List ℕ) → Bytes c.run → ((n : ℕ) → (call d c).0 ≡ refusal n → ⊥)
    → AllOf (ForOthers (call d c).1) cs
    → ((takes (after (call d c).1 cs) c.run store memory).0.1 ≡ (call d c).1)
    × (size ≤ length store → 11 ≤ length memory → (takes (after (call d c).1 cs) c.run store memory).0.0 ≡ (call d c).0)

-- what a fresh display holds after any calls: it is fresh still, or one call brought an order for it or for everybody that is the last one taken
-- and whose value is shown, and the calls behind it changed nothing
pub data Holds (own : ℕ) (cs : List Call) (d : Display) : Type 0 where
  blank : d ≡ fresh_display own → Holds own cs d
  brought : (before : List Call) (c : Call) (behind : List Call) (o : Order) → cs ≡ before ++ (c ∷ behind)
      → (reading c.run c.store).0 ≡ done o → eqb o.receiver own || eqb o.receiver 255 ≡ true → d ≡ showing (fresh_display own) o
      → AllOf (λ b. (call d b).1 ≡ d) behind → Holds own cs d

abbrev pub ShowsOrdered : Type 0
ShowsOrdered = (own : ℕ) (cs : List Call) → Holds own cs (after (fresh_display own) cs)

-- ---- document 000's second example

-- 250 orders 101 to show 12345, and the answer of 101
abbrev pub printed_order : List ℕ
printed_order =
    253 ∷ 101 ∷ 250 ∷ 5 ∷ 2 ∷ 128 ∷ 12 ∷ 1 ∷ 1
    ∷ 67 ∷ 76 ∷ 67 ∷ 83 ∷ 72 ∷ 49 ∷ 50 ∷ 128 ∷ 51 ∷ 52 ∷ 53 ∷ 128 ∷ 96 ∷ 254 ∷ []

abbrev pub printed_answer : List ℕ
printed_answer = 253 ∷ 250 ∷ 101 ∷ 6 ∷ 2 ∷ 128 ∷ 128 ∷ 1 ∷ 1 ∷ 105 ∷ 254 ∷ []

abbrev pub order12345 : Order
order12345 = record { receiver = 101; sender = 250; number = 2; value = 12345 }

-- the first is the frame of that order; a display at 101 takes it, shows 345 and answers with the second
pub record Printed : Type 0 where
  pub written : order_frame order12345 ≡ printed_order
  pub taken : (store memory : List ℕ) → size ≤ length store → 11 ≤ length memory
      → ((takes (fresh_display 101) printed_order store memory).0 ≡ (answer 11, showing (fresh_display 101) order12345))
      × ((takes (fresh_display 101) printed_order store memory).2 ≡ over printed_answer memory)
  pub shown : (showing (fresh_display 101) order12345).places ≡ 51 ∷ 52 ∷ 53 ∷ []
