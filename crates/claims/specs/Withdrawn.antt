-- A number that was withdrawn is given by no call. The calls from C and the letter of a listing are claimed in host and lister.
use Rattle.std.specs.Prelude.{ℕ, ◌≡◌, Bool, List, Result}
use Rattle.framing.specs.Answer.{refused, stored_at}
use Rattle.framing.specs.Tests.{write_fault, call_fault}
use Rattle.framing.specs.declared.refusal.Refusal.{Refusal}
use Rattle.framing.specs.Writer.{writes}
use Rattle.framing.specs.Link.{Link, write_on}
use Rattle.framing.specs.Refusals.{StreamGives, CallGives, ReadGives}
use Rattle.packing.specs.Contract.{unpacked_in}
use Rattle.record.specs.Fares.{Signedness}
use Rattle.record.specs.Answers.{copying, reading, writing, outcomes_of, viewing}
use Rattle.record.specs.declared.fare.Element.{Element}
use Rattle.gate.specs.Asking.{Exchange, Step, asks}
use Rattle.gate.specs.Asking as Asking
use Rattle.gate.specs.Chain.{steps_down, steps_up}
use Rattle.gate.specs.Chain as Chain
use Rattle.display.specs.Profile.{order_ok, order_frame}
use Rattle.display.specs.Reading as Display
use Rattle.display.specs.End.{refusal, takes}
use Rattle.display.specs.declared.Order.{Order}
use Rattle.display.specs.declared.Display.{Display}
use Rattle.claims.specs.Links.{Which, link_of}

-- 11 was the number of a PCS frame that asked for a CRC; 02 withdraws it
abbrev pub withdrawn_number : ℕ
withdrawn_number = 11

-- on a link: no stream, no call of the receiver, no read of a whole frame, no writer
pub record LinkNever (L : Link) (n : ℕ) : Type 0 where
  pub streams : StreamGives L n → ⊥
  pub receives : CallGives L n → ⊥
  pub reads : ReadGives L n → ⊥
  pub writes : (m : L.Message) (memory : List ℕ) → (write_on L m memory).0 ≡ refused n → ⊥

-- the tests before a call; bytes stored at a place: packed, hidden or of a text; unpacking
pub record LeafNever (n : ℕ) : Type 0 where
  pub write_tests : (sendable fits : Bool) → write_fault sendable fits ≡ n → ⊥
  pub call-tests : (known holds : Bool) → call_fault known holds ≡ n → ⊥
  pub stores : (run memory : List ℕ) (at : ℕ) → (stored_at run memory at).0 ≡ refused n → ⊥
  pub unpacks : (store : List ℕ) (from count : ℕ) → (unpacked_in store from count).0 ≡ refused n → ⊥

-- records, with fares of either signedness
pub record RecordNever {A : Type 0} (F : Signedness A) (n : ℕ) : Type 0 where
  pub copies : (r : List ℕ) (out : List A) → (copying F r out).0 ≡ refused n → ⊥
  pub reads : (r : List ℕ) (i : ℕ) → reading F r i ≡ refused n → ⊥
  pub writes : (kind address : ℕ) (fares : List A) (memory : List ℕ) → (writing F kind address fares memory).0 ≡ refused n → ⊥

-- their views, and an element asked for as unsigned or as signed
pub record ViewNever (n : ℕ) : Type 0 where
  pub views_unsigned : (payload : List ℕ) (kind count i : ℕ) → (viewing payload kind count i).0 ≡ refused n → ⊥
  pub views_signed : (payload : List ℕ) (kind count i : ℕ) → (viewing payload kind count i).1 ≡ refused n → ⊥
  pub asked_unsigned_lem : (e : Result Element Refusal) → (outcomes_of e).0 ≡ refused n → ⊥
  pub asked_signed_lem : (e : Result Element Refusal) → (outcomes_of e).1 ≡ refused n → ⊥

-- the gate exchange
pub record GateNever (n : ℕ) : Type 0 where
  pub asks : (e : Exchange) (s : Step) → (asks e s).0 ≡ Asking.refused n → ⊥
  pub steps_down_lem : (address : ℕ) → steps_down address ≡ Chain.refused n → ⊥
  pub steps_up_lem : (address : ℕ) → steps_up address ≡ Chain.refused n → ⊥

-- the display: its orders and its end
pub record DisplayNever (n : ℕ) : Type 0 where
  pub writes : (o : Order) (memory : List ℕ) → (writes order_ok order_frame o memory).0 ≡ refused n → ⊥
  pub reads : (run store : List ℕ) → (Display.reading run store).0 ≡ refused n → ⊥
  pub takes : (d : Display) (run store memory : List ℕ) → (takes d run store memory).0.0 ≡ refusal n → ⊥

pub record Never (n : ℕ) : Type 1 where
  pub links : (w : Which) → LinkNever (link_of w) n
  pub leaves : LeafNever n
  pub records : {A : Type 0} (F : Signedness A) → RecordNever F n
  pub views : ViewNever n
  pub gate : GateNever n
  pub display : DisplayNever n

abbrev pub Withdrawn : Type 1
Withdrawn = Never withdrawn_number
