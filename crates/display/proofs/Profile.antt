-- Orders and the messages of the profile, each way; and what is read is an order's frame.
use Prim.Native.Nat.{ℕ, ◌≤◌}
use mathlib.Core.Path.{◌≡◌, refl, ap, sym, ◌∙◌, subst}
use mathlib.Core.Bool.{true, false}
use mathlib.Core.List.{List, ◌++◌}
use native.Mathlib.Omega.{arith}
use lib.Dec.{eqb}
use lib.ListN.{drop}
use lib.Seq.{drop_at}
use borrow.Author.Tests.{eqb-true, not-true}
use Rattle.runs.specs.Runs.{Bytes}
use Rattle.runs.proofs.Cases.{and_both, by_test}
use Rattle.framing.specs.Answer.{Outcome, done, refused}
use Rattle.framing.specs.Whole.{read_on}
use Rattle.decimal.specs.Decimal.{decimal, value_of, is_numeral}
use Rattle.decimal.proofs.Value.{Numeral, numeral, is_numeral_lem, decimal_value, decimal_numeral, value_decimal, value_below}
use Rattle.pcs.specs.Frame.{Message, ok, frame}
use Rattle.pcs.specs.Contract as Pcs
use Rattle.pcs.specs.Contract.{link}
use Rattle.pcs.specs.declared.Message as Numbers
use Rattle.pcs.proofs.Theorems.{only_frames}
use Rattle.display.specs.Profile.{word, most_digits, largest, message_of, order_frame, begins_with, is_text, in_profile, order_of}
use Rattle.display.specs.Reading.{judged, ordered, reading}
use Rattle.display.specs.declared.Order.{Order}
use Rattle.display.proofs.Loops.{begins_is, begins_append}

pub text_facts : (u : List ℕ) → is_text u ≡ true → (begins_with word u ≡ true) × Numeral most_digits (drop 5 u)
text_facts u h =
    let a = and_both (begins_with word u) (is_numeral most_digits (drop 5 u)) h in
    (a.0, numeral most_digits (drop 5 u) a.1)

-- a message of the profile
pub record OfProfile (m : Message) : Type 0 where
  pub kind : m.kind ≡ 1
  pub sender_port : m.sender_port ≡ 1
  pub receiver_port : m.receiver_port ≡ 1
  pub crc : m.crc ≡ false
  pub begins : begins_with word m.payload ≡ true
  pub numeral : Numeral most_digits (drop 5 m.payload)

pub of_profile : (m : Message) → in_profile m ≡ true → OfProfile m
of_profile m h =
    let a = and_both (eqb m.kind 1) _ h in
    let b = and_both (eqb m.sender_port 1) _ a.1 in
    let d = and_both (eqb m.receiver_port 1) _ b.1 in
    let e = and_both _ (is_text m.payload) d.1 in
    let t = text_facts m.payload e.1 in
    record {
      kind = eqb-true m.kind 1 a.0;
      sender_port = eqb-true m.sender_port 1 b.0;
      receiver_port = eqb-true m.receiver_port 1 d.0;
      crc = not-true m.crc e.0;
      begins = t.0;
      numeral = t.1;
    }

pub value_most : (u : List ℕ) → Numeral most_digits u → value_of u ≤ largest
value_most u n = omega (arith, value_below 0 most_digits u n.digits n.few)

-- such a message is that of its order ..
pub message_order : (m : Message) → in_profile m ≡ true → (message_of (order_of m) ≡ m) × ((order_of m).value ≤ largest)
message_order m h =
    let p = of_profile m h in
    let most = value_most (drop 5 m.payload) p.numeral in
    let digits : decimal (value_of (drop 5 m.payload)) ≡ drop 5 m.payload = decimal_value most_digits (drop 5 m.payload) p.numeral (omega (arith, most)) in
    let data' : word ++ decimal (value_of (drop 5 m.payload)) ≡ m.payload = ap (λ (l : List ℕ). word ++ l) digits ∙ sym (begins_is word m.payload p.begins) in (
      λ i.
          record {
            receiver = m.receiver;
            sender = m.sender;
            kind = sym p.kind i;
            number = m.number;
            sender_port = sym p.sender_port i;
            receiver_port = sym p.receiver_port i;
            crc = sym p.crc i;
            payload = data' i;
          },
      most,
    )

-- .. and an order's message is of the profile, and its order is that one
pub order_message : (o : Order) → o.value ≤ largest → (in_profile (message_of o) ≡ true) × (order_of (message_of o) ≡ o)
order_message o h =
    let behind : drop 5 (word ++ decimal o.value) ≡ decimal o.value = drop_at word (decimal o.value) 5 refl in
    let digits : is_numeral most_digits (decimal o.value) ≡ true = is_numeral_lem (decimal_numeral 7 o.value (omega arith) (omega arith)) in
    let same : value_of (decimal o.value) ≡ o.value = value_decimal o.value (omega arith) in (
      rw (begins_append word (decimal o.value)) digits,
      λ i. record { receiver = o.receiver; sender = o.sender; number = o.number; value = same i },
    )

-- ---- what is read

done_is : (m : Message) (o : Order) → judged m ≡ done o → (in_profile m ≡ true) × (o ≡ order_of m)
done_is m o = by_test (λ (x : Outcome Order). x ≡ done o → (in_profile m ≡ true) × (o ≡ order_of m)) (in_profile m) (λ e h. (e, cc))
    (λ _ h. let z : ◌≡◌ {A = ℕ} 0 1 = cc in absurd (omega arith))

ordered_done : (store : List ℕ) (x : Outcome Numbers.Message) (o : Order) → ordered store x ≡ done o
    → (v : Numbers.Message) × (x ≡ done v) × (in_profile (Pcs.message_of store v) ≡ true) × (o ≡ order_of (Pcs.message_of store v))
ordered_done store (done v) o h = let d = done_is (Pcs.message_of store v) o h in (v, refl, d.0, d.1)
ordered_done store (refused n) o h = let z : ◌≡◌ {A = ℕ} 0 1 = cc in absurd (omega arith)

-- a run that is read as an order is the frame of that order, which may be sent
pub record Accepted (run : List ℕ) (o : Order) : Type 0 where
  pub sends : ok (message_of o) ≡ true
  pub most : o.value ≤ largest
  pub framed : run ≡ order_frame o

pub accepted : (run store : List ℕ) (o : Order) → Bytes run → (reading run store).0 ≡ done o → Accepted run o
accepted run store o y h =
    let (v, e, p, q) = ordered_done (read_on link run store).1 (read_on link run store).0 o h in
    let (m, means) = only_frames run store v y e in
    let fit : in_profile m ≡ true = sym (ap in_profile means.kept) ∙ p in
    let own : o ≡ order_of m = q ∙ ap order_of means.kept in
    let back = message_order m fit in
    let same : message_of o ≡ m = ap message_of own ∙ back.0 in
    record {
      sends = ap ok same ∙ means.sendable;
      most = subst (λ (x : Order). x.value ≤ largest) (sym own) back.1;
      framed = means.framed ∙ sym (ap frame same);
    }
