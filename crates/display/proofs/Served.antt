-- What an order does at the display's end: it is answered and taken, taken alone, passed over, or refused with 2.
use Prim.Native.Nat.{ℕ, ◌+◌, ◌≤◌, ◌<◌}
use mathlib.Core.Path.{◌≡◌, refl, ap, ap₂, sym, ◌∙◌}
use mathlib.Core.Logic.{◌↔◌}
use mathlib.Core.Bool.{Bool, true, false, cond}
use mathlib.Core.List.{List}
use native.Mathlib.Omega.{arith}
use lib.Dec.{eqb, lit<}
use lib.ListN.{length, take}
use lib.Seq.{sets}
use borrow.Author.Tests.{eq-eqb, eqb-true, eqb-false}
use Rattle.runs.specs.Runs.{over}
use Rattle.runs.proofs.Run.{sets_over}
use Rattle.runs.proofs.Cases.{by_test, by_leb, and_both}
use Rattle.framing.specs.Answer.{Outcome, done, refused, stored_at}
use Rattle.framing.specs.Whole.{read_on}
use Rattle.pcs.specs.Frame.{plain_ok, frame}
use Rattle.pcs.specs.Contract.{link, numbers_of}
use Rattle.pcs.proofs.Written.{frame-length}
use Rattle.pcs.proofs.Allowed.{sendable, plain_most}
use Rattle.pcs.proofs.Typed.{typed}
use Rattle.pcs.proofs.Theorems.{frames_read}
use Rattle.display.specs.Profile.{message_of}
use Rattle.display.specs.Reading.{reading}
use Rattle.display.specs.End.{is_repeat, showing, taking, answer_to, Reply, nothing, answer, refusal, answering, served, received, takes}
use Rattle.display.specs.Claims.{RefusedKeeps, SilentKeeps, RefusedShort, AnswerReads, answer_read, RepeatAnswered, NewTaken, TakesInOrder}
use Rattle.display.specs.declared.Order.{Order}
use Rattle.display.specs.declared.Display.{Display}
use Rattle.display.proofs.Profile.{accepted}
use Rattle.display.proofs.Serving.{answer_ok}
use Rattle.display.proofs.Orders.{front, frames-judged}

-- the reply and the display after, with the memory; and with the store too
abbrev pub Doing : Type 0
Doing = (Reply × Display) × List ℕ

abbrev pub Done : Type 0
Done = (Reply × Display) × List ℕ × List ℕ

pub differ : {A : Type 0} → ◌≡◌ {A = ℕ} 0 1 → A
differ e = absurd (omega arith)

pub eleven : (o : Order) → length (frame (answer_to o)) ≡ 11
eleven o = frame-length (answer_to o)

-- what an order does where its answer fits
abbrev pub replied : Display → Order → Reply
replied d o = cond (eqb o.receiver d.own) (answer (length (frame (answer_to o)))) nothing

abbrev pub moved : Display → Order → Display
moved d o = cond (eqb o.receiver d.own) (taking d o) (cond (eqb o.receiver 255) (taking d o) d)

abbrev pub served_by : Display → Order → List ℕ → Bool → Bool → Doing
served_by d o memory t u =
    cond t (answering d o (stored_at (frame (answer_to o)) memory 0).0, (stored_at (frame (answer_to o)) memory 0).1) (cond u ((nothing, taking d o), memory) ((nothing, d), memory))

-- it does that, or is refused with 2
pub served_by_lem : (d : Display) (o : Order) (memory : List ℕ) (P : Doing → Type 0) (t u : Bool)
    → (length (frame (answer_to o)) ≤ length memory → t ≡ true → P ((answer (length (frame (answer_to o))), taking d o), sets memory 0 (frame (answer_to o))))
    → (length memory < length (frame (answer_to o)) → t ≡ true → P ((refusal 2, d), memory))
    → (t ≡ false → P ((nothing, cond u (taking d o) d), memory))
    → P (served_by d o memory t u)
unfolding stored_at
served_by_lem d o memory P true u a b e =
    by_leb (λ (x : Outcome ℕ × List ℕ). P (answering d o x.0, x.1)) (0 + length (frame (answer_to o))) (length memory) (λ l. a (omega arith) refl) (λ l. b (omega arith) refl)
served_by_lem d o memory P false true a b e = e refl
served_by_lem d o memory P false false a b e = e refl

-- ---- refusals

served-keeps : (d : Display) (o : Order) (memory : List ℕ) (n : ℕ) → (served d o memory).0.0 ≡ refusal n → ((served d o memory).0.1 ≡ d) × ((served d o memory).1 ≡ memory)
served-keeps d o memory n =
    served_by_lem d o memory (λ (s : Doing). s.0.0 ≡ refusal n → (s.0.1 ≡ d) × (s.1 ≡ memory)) (eqb o.receiver d.own) (eqb o.receiver 255)
    (λ _ _ h. differ (cc)) (λ _ _ h. (refl, refl)) (λ _ h. differ (cc))

received-keeps : (d : Display) (x : Outcome Order) (memory : List ℕ) (n : ℕ) → (received d x memory).0.0 ≡ refusal n
    → ((received d x memory).0.1 ≡ d) × ((received d x memory).1 ≡ memory)
received-keeps d (done o) memory n h = served-keeps d o memory n h
received-keeps d (refused k) memory n h = (refl, refl)

pub refused_keeps : RefusedKeeps
refused_keeps d run store memory n =
    by_test (λ (s : Done). s.0.0 ≡ refusal n → (s.0.1 ≡ d) × (s.2 ≡ memory)) (plain_ok d.own)
    (λ _ h. received-keeps d (reading run store).0 memory n h) (λ _ h. (refl, refl))

-- ---- no answer

served-silent : (d : Display) (o : Order) (memory : List ℕ) → (served d o memory).0.0 ≡ nothing → (served d o memory).1 ≡ memory
served-silent d o memory =
    served_by_lem d o memory (λ (s : Doing). s.0.0 ≡ nothing → s.1 ≡ memory) (eqb o.receiver d.own) (eqb o.receiver 255)
    (λ _ _ h. differ (cc)) (λ _ _ _. refl) (λ _ _. refl)

received-silent : (d : Display) (x : Outcome Order) (memory : List ℕ) → (received d x memory).0.0 ≡ nothing → (received d x memory).1 ≡ memory
received-silent d (done o) memory h = served-silent d o memory h
received-silent d (refused k) memory h = refl

pub silent-keeps : SilentKeeps
silent-keeps d run store memory =
    by_test (λ (s : Done). s.0.0 ≡ nothing → s.2 ≡ memory) (plain_ok d.own) (λ _ h. received-silent d (reading run store).0 memory h) (λ _ _. refl)

-- ---- the answer

-- what an answer tells: the order was for this display, was taken, and its answer stands at the start of the memory
record Told (d : Display) (o : Order) (memory : List ℕ) (n : ℕ) (s : Doing) : Type 0 where
  own : o.receiver ≡ d.own
  count : n ≡ length (frame (answer_to o))
  after : s.0.1 ≡ taking d o
  left : s.1 ≡ over (frame (answer_to o)) memory

served_answer : (d : Display) (o : Order) (memory : List ℕ) (n : ℕ) → (served d o memory).0.0 ≡ answer n → Told d o memory n (served d o memory)
served_answer d o memory n =
    served_by_lem d o memory (λ (s : Doing). s.0.0 ≡ answer n → Told d o memory n s) (eqb o.receiver d.own) (eqb o.receiver 255)
    (λ l t h. record { own = eqb-true o.receiver d.own t; count = cc; after = refl; left = sets_over (frame (answer_to o)) memory l })
    (λ _ _ h. differ (cc)) (λ _ h. differ (cc))

received_answer : (d : Display) (x : Outcome Order) (memory : List ℕ) (n : ℕ) → (received d x memory).0.0 ≡ answer n
    → (o : Order) × (x ≡ done o) × Told d o memory n (received d x memory)
received_answer d (done o) memory n h = (o, refl, served_answer d o memory n h)
received_answer d (refused k) memory n h = differ (cc)

-- a display whose own address is allowed
pub opened : (d : Display) (run store memory : List ℕ) → plain_ok d.own ≡ true
    → takes d run store memory ≡ ((received d (reading run store).0 memory).0, (reading run store).1, (received d (reading run store).0 memory).1)
opened d run store memory p = rw p

pub addressed : (d : Display) (run store memory : List ℕ) (r : Reply) → (takes d run store memory).0.0 ≡ r → (r ≡ refusal 3 → ⊥) → plain_ok d.own ≡ true
addressed d run store memory r h no3 =
    by_test (λ (s : Done). s.0.0 ≡ r → plain_ok d.own ≡ true) (plain_ok d.own) (λ p _. p) (λ _ e. absurd (no3 (sym e))) h

-- what PCS tells of the answer
read_as : (d : Display) (o : Order) → o.receiver ≡ d.own → numbers_of (answer_to o) ≡ answer_read d o
read_as d o h =
    ap (λ (k : ℕ). record { receiver = o.sender; sender = k; kind = 2; number = o.number; sender_port = 1; receiver_port = 1; crc = false; length = 0 }) h

pub answer_reads : AnswerReads
answer_reads d run store memory n y h =
    let p = addressed d run store memory (answer n) h (λ e. differ (cc)) in
    let e = opened d run store memory p in
    let (o, is, t) = received_answer d (reading run store).0 memory n (sym (ap (λ (s : Done). s.0.0) e) ∙ h) in
    let a = accepted run store o y is in
    let s = sendable (message_of o) a.sends in
    let fit = answer_ok o s.plain.sender (ap plain_ok t.own ∙ p) s.plain.number in
    let there : (takes d run store memory).2 ≡ over (frame (answer_to o)) memory = ap (λ (s : Done). s.2) e ∙ t.left in
    let bytes : take n (takes d run store memory).2 ≡ frame (answer_to o) =
    ap₂ (λ (k : ℕ) (l : List ℕ). take k l) t.count there ∙ front (frame (answer_to o)) memory in
    record {
      order = o;
      read = is;
      own = t.own;
      count = t.count ∙ eleven o;
      after = ap (λ (s : Done). s.0.1) e ∙ t.after;
      left = there;
      back = λ other room.
          ap (λ (l : List ℕ). (read_on link l other).0) bytes
          ∙ (frames_read (answer_to o) other (typed (answer_to o) fit (λ i. lit< tt)) fit room).0
          ∙ ap done (read_as d o t.own);
    }

-- ---- 2, where an answer does not fit

pub served_short : (d : Display) (o : Order) (memory : List ℕ) (n : ℕ)
    → ((served d o memory).0.0 ≡ refusal n) ↔ ((o.receiver ≡ d.own) × (length memory < 11) × (n ≡ 2))
served_short d o memory n =
    let e = eleven o in
    served_by_lem d o memory (λ (s : Doing). (s.0.0 ≡ refusal n) ↔ ((o.receiver ≡ d.own) × (length memory < 11) × (n ≡ 2)))
    (eqb o.receiver d.own) (eqb o.receiver 255) (λ l _. (λ h. differ (cc), λ q. absurd (omega (arith, q.1))))
    (λ l t. (λ h. (eqb-true o.receiver d.own t, omega arith, cc), λ q. ap refusal (sym q.2)))
    (λ t. (λ h. differ (cc), λ q. absurd (eqb-false o.receiver d.own t q.0)))

pub refused_short : RefusedShort
refused_short d run store memory o n p h = rw (p, h) (served_short d o memory n)

-- ---- an order that is no repeat

new_shows : (d : Display) (o : Order) → (d.taken ≡ true → o.sender ≡ d.sender → o.number ≡ d.number → ⊥) → taking d o ≡ showing d o
new_shows d o other =
    by_test (λ (x : Display). x ≡ showing d o) (is_repeat d o)
    (λ e. let a = and_both d.taken _ e in
    let b = and_both _ _ a.1 in
    absurd (other a.0 (eqb-true _ _ b.0) (eqb-true _ _ b.1)))
    (λ _. refl)

served_new : (d : Display) (o : Order) (memory : List ℕ) → plain_ok d.own ≡ true → taking d o ≡ showing d o
    → (o.receiver ≡ d.own → 11 ≤ length memory → (served d o memory).0 ≡ (answer 11, showing d o))
    × (o.receiver ≡ 255 → (served d o memory).0 ≡ (nothing, showing d o))
served_new d o memory p shows =
    let e = eleven o in
    let few = plain_most d.own p in
    served_by_lem d o memory
    (λ (s : Doing). (o.receiver ≡ d.own → 11 ≤ length memory → s.0 ≡ (answer 11, showing d o)) × (o.receiver ≡ 255 → s.0 ≡ (nothing, showing d o)))
    (eqb o.receiver d.own) (eqb o.receiver 255)
    (λ _ t. (λ _ _. ap₂ (λ (k : ℕ) (x : Display). (answer k, x)) e shows, λ all. absurd (omega (arith, eqb-true o.receiver d.own t))))
    (λ l t. (λ _ fits. absurd (omega arith), λ all. absurd (omega (arith, eqb-true o.receiver d.own t))))
    (λ t. (
      λ own. absurd (eqb-false o.receiver d.own t own),
      λ all. ap (λ (x : Display). (nothing, x))
          (by_test (λ (x : Display). x ≡ showing d o) (eqb o.receiver 255) (λ _. shows) (λ f. absurd (eqb-false o.receiver 255 f all))),
    ))

pub new_taken : NewTaken
new_taken d run store memory o p h other = rw (p, h) (served_new d o memory p (new_shows d o other))

-- ---- a repeat

repeat_stays : (d : Display) (o : Order) → d.taken ≡ true → o.sender ≡ d.sender → o.number ≡ d.number → taking d o ≡ d
repeat_stays d o t s n = rw (t, eq-eqb o.sender d.sender s, eq-eqb o.number d.number n)

served_repeat : (d : Display) (o : Order) (memory : List ℕ) → taking d o ≡ d
    → ((served d o memory).0.1 ≡ d)
    × (o.receiver ≡ d.own → 11 ≤ length memory → ((served d o memory).0.0 ≡ answer 11) × ((served d o memory).1 ≡ over (frame (answer_to o)) memory))
served_repeat d o memory stays =
    let e = eleven o in
    served_by_lem d o memory
    (λ (s : Doing). (s.0.1 ≡ d) × (o.receiver ≡ d.own → 11 ≤ length memory → (s.0.0 ≡ answer 11) × (s.1 ≡ over (frame (answer_to o)) memory)))
    (eqb o.receiver d.own) (eqb o.receiver 255)
    (λ l _. (stays, λ _ _. (ap answer e, sets_over (frame (answer_to o)) memory l)))
    (λ l _. (refl, λ _ fits. absurd (omega arith)))
    (λ t. (by_test (λ (x : Display). x ≡ d) (eqb o.receiver 255) (λ _. stays) (λ _. refl), λ own. absurd (eqb-false o.receiver d.own t own)))

pub repeat_answered : RepeatAnswered
repeat_answered d run store memory o p h t s n = rw (p, h) (served_repeat d o memory (repeat_stays d o t s n))

-- ---- the order of refusals

pub takes_in_order : TakesInOrder
takes_in_order d run store memory =
    record {
      own_first = λ p. rw p;
      then_pcs = λ p n h. rw (p, h);
      then_outside = λ p m f t o room out. rw p
          (ap (λ (x : Outcome Order). (received d x memory).0.0) (ap (λ (r : List ℕ). (reading r store).0) f ∙ (frames-judged m store t o room).1 out));
      store-left = λ p. rw p;
    }
