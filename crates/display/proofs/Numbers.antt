-- Which numbers a read and a take are refused with.
use Prim.Native.Nat.{ℕ, ◌≤◌}
use mathlib.Core.Path.{◌≡◌, refl, ap, sym}
use mathlib.Core.Bool.{true, false}
use mathlib.Core.List.{List, [], ◌∷◌}
use native.Mathlib.Omega.{arith}
use lib.Dec.{lit<}
use lib.ListN.{length, replicate, length-replicate}
use Rattle.runs.proofs.Cases.{by_test}
use Rattle.framing.specs.Answer.{Outcome, done, refused}
use Rattle.framing.specs.Claims.{AllOf}
use Rattle.framing.specs.Refusals.{is_in}
use Rattle.framing.specs.Refusals as Link
use Rattle.framing.specs.Whole.{read_on}
use Rattle.framing.proofs.Refusals.{all_in, in_more}
use Rattle.framing.proofs.Refusals as any
use Rattle.decimal.specs.Decimal.{decimal, decimal_of}
use Rattle.pcs.specs.Frame.{Message, Typed, with_fields, plain_ok, frame}
use Rattle.pcs.specs.Rules.{size}
use Rattle.pcs.specs.Contract.{link, message_of}
use Rattle.pcs.specs.Claims.{stream_numbers}
use Rattle.pcs.specs.declared.Message as Told
use Rattle.pcs.proofs.Typed.{typed}
use Rattle.pcs.proofs.Lawful.{lawful}
use Rattle.pcs.proofs.Numbers.{given}
use Rattle.display.specs.Profile.{order_frame, in_profile}
use Rattle.display.specs.Profile as Profile
use Rattle.display.specs.Reading.{judged, ordered, reading}
use Rattle.display.specs.End.{fresh_display, refusal, received, takes}
use Rattle.display.specs.Claims.{read_refusals, take_refusals, ReadGives, TakeGives, ReadsGive, TakesGive}
use Rattle.display.specs.declared.Order.{Order}
use Rattle.display.specs.declared.Display.{Display}
use Rattle.display.proofs.Orders.{frame_read, order_typed, order-reads}
use Rattle.display.proofs.Served.{Done, differ, served_short, refused_short}

-- ---- reads

-- those of a whole PCS frame
abbrev pcs_numbers : List ℕ
pcs_numbers = 1 ∷ 4 ∷ 5 ∷ 6 ∷ 8 ∷ 9 ∷ 10 ∷ 13 ∷ []

pcs_gives : Link.ReadsGive link pcs_numbers
pcs_gives = any.reads_give link lawful stream_numbers given pcs_numbers refl refl

by_pcs : (n : ℕ) → is_in n pcs_numbers ≡ true → ReadGives n
by_pcs n h =
    let g = (pcs_gives n).0 h in
    record { run = g.run; store = g.store; bytes = g.bytes; answers = ap (ordered (read_on link g.run g.store).1) g.answers }

-- a store that is long enough
room : List ℕ
room = replicate size 0

room_holds : size ≤ length room
unfolding room
room_holds = omega (arith, length-replicate {A = ℕ} size 0)

-- a message of kind 0 is outside the profile
plain : Message
plain = with_fields 1 1 0 1 1 1 false []

plain_typed : Typed plain
unfolding plain
plain_typed = typed plain refl (λ i. lit< tt)

outside : ReadGives 21
unfolding plain
outside =
    record {
      run = frame plain;
      store = room;
      bytes = lawful.frame_bytes plain plain_typed refl;
      answers = frame_read plain room plain_typed refl room_holds;
    }

judged_21 : (m : Message) (n : ℕ) → judged m ≡ refused n → n ≡ 21
judged_21 m n = by_test (λ (x : Outcome Order). x ≡ refused n → n ≡ 21) (in_profile m) (λ _ h. differ (cc)) (λ _ h. cc)

-- an answer by what PCS answered
ordered_in : (store : List ℕ) (x : Outcome Told.Message) (n : ℕ) → ((k : ℕ) → x ≡ refused k → is_in k pcs_numbers ≡ true) → ordered store x ≡ refused n
    → is_in n read_refusals ≡ true
ordered_in store (done v) n f h = rw (judged_21 (message_of store v) n h)
ordered_in store (refused k) n f h =
    let e : k ≡ n = cc in
    all_in (λ (j : ℕ). is_in j read_refusals ≡ true) pcs_numbers n (refl, (refl, (refl, (refl, (refl, (refl, (refl, (refl, tt)))))))) (rw e at (f k refl))

each : AllOf ReadGives read_refusals
each =
    (by_pcs 1 refl, (by_pcs 4 refl, (by_pcs 5 refl, (by_pcs 6 refl, (by_pcs 8 refl, (by_pcs 9 refl, (by_pcs 10 refl, (by_pcs 13 refl, (outside, tt)))))))))

-- whatever is lent as a run
pub read_listed : (run store : List ℕ) (n : ℕ) → (reading run store).0 ≡ refused n → is_in n read_refusals ≡ true
read_listed run store n =
    ordered_in (read_on link run store).1 (read_on link run store).0 n
    (any.read_passes link lawful stream_numbers given (λ (k : ℕ). is_in k pcs_numbers) refl run store)

pub reads_give : ReadsGive
reads_give n = (all_in ReadGives read_refusals n each, λ g. read_listed g.run g.store n g.answers)

-- ---- takes

-- a display with own address 1
abbrev one : Display
one = fresh_display 1

-- an order for it
abbrev order : Order
order = record { receiver = 1; sender = 1; number = 1; value = 0 }

no_address : TakeGives 3
no_address = record { display = fresh_display 0; run = []; store = []; memory = []; bytes = λ i. lit< tt; replies = refl }

by_read : (n : ℕ) → ReadGives n → TakeGives n
by_read n g =
    record {
      display = one;
      run = g.run;
      store = g.store;
      memory = [];
      bytes = g.bytes;
      replies = ap (λ (x : Outcome Order). (received one x []).0.0) g.answers;
    }

all_read : (ns : List ℕ) → AllOf ReadGives ns → AllOf TakeGives ns
all_read [] a = tt
all_read (n ∷ ns) a = (by_read n a.0, all_read ns a.1)

-- the answer to the order does not fit in no memory
too_short_lem : TakeGives 2
unfolding decimal decimal_of
too_short_lem =
    record {
      display = one;
      run = order_frame order;
      store = room;
      memory = [];
      bytes = lawful.frame_bytes (Profile.message_of order) (order_typed order refl) refl;
      replies = (refused_short one (order_frame order) room [] order 2 refl (order-reads order room (omega arith) refl room_holds)).1 (refl, lit< tt, refl);
    }

received_in : (d : Display) (x : Outcome Order) (memory : List ℕ) (n : ℕ) → ((k : ℕ) → x ≡ refused k → is_in k read_refusals ≡ true)
    → (received d x memory).0.0 ≡ refusal n → is_in n take_refusals ≡ true
received_in d (done o) memory n f h = rw ((served_short d o memory n).0 h).2
received_in d (refused k) memory n f h =
    let e : k ≡ n = cc in
    in_more n (2 ∷ read_refusals) 3 (in_more n read_refusals 2 (rw e at (f k refl)))

pub take-listed : (d : Display) (run store memory : List ℕ) (n : ℕ) → (takes d run store memory).0.0 ≡ refusal n → is_in n take_refusals ≡ true
take-listed d run store memory n =
    by_test (λ (s : Done). s.0.0 ≡ refusal n → is_in n take_refusals ≡ true) (plain_ok d.own)
    (λ _ h. received_in d (reading run store).0 memory n (λ k e. read_listed run store k e) h) (λ _ h. let e : 3 ≡ n = cc in rw (sym e))

pub takes_give : TakesGive
takes_give n = (
  all_in TakeGives take_refusals n (no_address, (too_short_lem, all_read read_refusals each)),
  λ g. take-listed g.display g.run g.store g.memory n g.replies,
)
