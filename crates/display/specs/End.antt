-- The display's end: what it shows, and what it does with a run that is to be one whole frame.
use Rattle.std.specs.Prelude.{ℕ, ◌-◌, Bool, true, false, cond, ◌&&◌, List, [], ◌∷◌, eqb, length, drop}
use Rattle.framing.specs.Answer.{Outcome, done, refused, stored_at}
use Rattle.decimal.specs.Decimal.{decimal}
use Rattle.pcs.specs.Frame.{Message, with_fields, plain_ok, frame}
use Rattle.display.specs.Reading.{reading}
use Rattle.display.specs.declared.Order.{Order}
use Rattle.display.specs.declared.Display.{Display}

-- ---- what is shown

-- the last three elements
abbrev pub last_three : List ℕ → List ℕ
last_three l = drop (length l - 3) l

-- the three places that show a value: the last three of its digits, and spaces (32) on the left where it has fewer
unfoldable pub shown_of : ℕ → List ℕ
shown_of v = last_three (32 ∷ 32 ∷ 32 ∷ decimal v)

-- ---- what an order does

-- nothing taken yet, three spaces shown
abbrev pub fresh_display : ℕ → Display
fresh_display own = record { own = own; taken = false; sender = 0; number = 0; places = 32 ∷ 32 ∷ 32 ∷ [] }

-- a repeat: sender and number are those of the last order taken. Receiver and value are not compared
abbrev pub is_repeat : Display → Order → Bool
is_repeat d o = d.taken && (eqb o.sender d.sender && eqb o.number d.number)

-- an order becomes the last one taken, and its value is shown
abbrev pub showing : Display → Order → Display
showing d o = record { own = d.own; taken = true; sender = o.sender; number = o.number; places = shown_of o.value }

-- the display after it takes an order: a repeat changes nothing
abbrev pub taking : Display → Order → Display
taking d o = cond (is_repeat d o) d (showing d o)

-- the answer to an order: kind 2, both ports 1, no CRC, the same number, the addresses turned, no data
abbrev pub answer_to : Order → Message
answer_to o = with_fields o.sender o.receiver 2 o.number 1 1 false []

-- what a frame is replied with: nothing, an answer of so many bytes, or a refusal
pub data Reply : Type 0 where
  nothing : Reply
  answer : ℕ → Reply
  refusal : ℕ → Reply

-- an order for this display is taken if its answer was stored, and not if that did not fit
abbrev pub answering : Display → Order → Outcome ℕ → Reply × Display
answering d o (done n) = (answer n, taking d o)
answering d o (refused n) = (refusal n, d)

-- an order for this display, whose answer goes to the start of the memory (2 where it does not fit there); for everybody, which is 255; for another
abbrev pub served : Display → Order → List ℕ → (Reply × Display) × List ℕ
served d o memory =
    let stored = stored_at (frame (answer_to o)) memory 0 in
    cond (eqb o.receiver d.own) (answering d o stored.0, stored.1)
    (cond (eqb o.receiver 255) ((nothing, taking d o), memory) ((nothing, d), memory))

-- a run that was read as an order, or refused
abbrev pub received : Display → Outcome Order → List ℕ → (Reply × Display) × List ℕ
received d (done o) memory = served d o memory
received d (refused n) memory = ((refusal n, d), memory)

-- a run that reaches the display: the reply and the display after it; the store; the memory for the answer. An own address that is not 1 to 250
-- gives 3, and nothing is looked at
abbrev pub takes : Display → List ℕ → List ℕ → List ℕ → (Reply × Display) × List ℕ × List ℕ
takes d run store memory =
    let read = reading run store in
    cond (plain_ok d.own) ((received d read.0 memory).0, read.1, (received d read.0 memory).1) ((refusal 3, d), store, memory)
