-- What is claimed of the display's calls.
use Prim.Native.Nat.{ℕ, ◌^◌, ◌≤◌, ◌<◌}
use mathlib.Core.Path.{◌≡◌, refl, ap, sym, ◌∙◌}
use mathlib.Core.Bool.{Bool, true, not, ◌&&◌, false≢true}
use mathlib.Core.List.{List}
use native.Mathlib.Omega.{arith}
use lib.Dec.{eqb, leb}
use lib.ListN.{length, length-append}
use borrow.Author.Tests.{leb-true}
use Rattle.runs.proofs.Cases.{and_both}
use Rattle.framing.specs.Answer.{Outcome, done, refused, fault_of}
use Rattle.framing.specs.Writer.{writes}
use Rattle.framing.proofs.Refusals.{all_in}
use Rattle.decimal.specs.Decimal.{decimal}
use Rattle.pcs.specs.Frame.{ok}
use Rattle.pcs.proofs.Written.{frame-length}
use Rattle.display.specs.Profile.{word, largest, message_of, order_ok, order_frame}
use Rattle.display.specs.Reading.{reading}
use Rattle.display.specs.End.{shown_of}
use Rattle.display.specs.Claims.{read_refusals}
use Rattle.display.specs.declared.Order.{Order}
use Rattle.display.proofs.Writing.{few_digits}
use Rattle.display.proofs.Profile.{accepted}
use Rattle.display.proofs.Orders.{order_typed}
use Rattle.display.proofs.Places.{shown_bytes}
use Rattle.display.proofs.Numbers.{read_listed}
use Rattle.display.proofs.Theorems.{writes_give}
use Rattle.host.specs.Read.{encode, refusal_of}
use Rattle.host.specs.Display.{order_code, order_read, receiver_of, sender_of, number_of, value_of}
use Rattle.host.specs.Claims.{OrderPart, OrderCalls}
use Rattle.host.proofs.Packed.{field_at}
use Rattle.host.proofs.Refusals.{minus_eleven}

frame_bound : (o : Order) → order_ok o ≡ true → length (order_frame o) ≤ 26
frame_bound o h =
    let most = leb-true o.value largest (and_both (leb o.value largest) (ok (message_of o)) h).0 in
    omega (arith, frame-length (message_of o), length-append word (decimal o.value), few_digits o.value most)

-- ---- refusals

-- of each number that a read is refused with
abbrev fine : ℕ → Bool
fine n = leb 1 n && (leb n 21 && not (eqb n 11))

all-fine : (run store : List ℕ) (n : ℕ) → (reading run store).0 ≡ refused n → fine n ≡ true
all-fine run store n e =
    all_in (λ (k : ℕ). fine k ≡ true) read_refusals n (refl, (refl, (refl, (refl, (refl, (refl, (refl, (refl, (refl, tt)))))))))
    (read_listed run store n e)

refusals_fit : (run store : List ℕ) (n : ℕ) → (reading run store).0 ≡ refused n → (1 ≤ n) × (n ≤ 21)
refusals_fit run store n e =
    let a = and_both (leb 1 n) (leb n 21 && not (eqb n 11)) (all-fine run store n e) in
    (leb-true 1 n a.0, leb-true n 21 (and_both (leb n 21) (not (eqb n 11)) a.1).0)

refusal_told : (run store : List ℕ) → refusal_of (order_read run store).0 ≡ fault_of (reading run store).0
refusal_told run store = go (reading run store).0 (refusals_fit run store)
  where
    go : (x : Outcome Order) → ((n : ℕ) → x ≡ refused n → (1 ≤ n) × (n ≤ 21)) → refusal_of (encode order_code x) ≡ fault_of x
    go (done o) f = omega arith
    go (refused n) f = let k = f n refl in omega arith

read_never : (run store : List ℕ) → refusal_of (order_read run store).0 ≡ 11 → ⊥
read_never run store e = go (reading run store).0 (all-fine run store) (sym (refusal_told run store) ∙ e)
  where
    go : (x : Outcome Order) → ((n : ℕ) → x ≡ refused n → fine n ≡ true) → fault_of x ≡ 11 → ⊥
    go (done o) f e = omega arith
    go (refused n) f e = false≢true (rw e at (f n refl))

-- ---- parts

-- the parts of an order that is told fit their bits
part-told : (accessor : ℕ → ℕ) (part : Order → ℕ)
    → ((o : Order) → o.receiver < 2 ^ 8 → o.sender < 2 ^ 8 → o.number < 2 ^ 8 → o.value ≤ largest → accessor (order_code o) ≡ part o)
    → OrderPart accessor part
part-told accessor part tells run store o y h =
    let a = accepted run store o y h in
    let t = order_typed o a.sends in
    ap (λ (x : Outcome Order). accessor (encode order_code x)) h ∙ tells o t.receiver t.sender t.number a.most

pub order_calls : OrderCalls
order_calls =
    record {
      frame_bound = frame_bound;
      refusals_fit = refusals_fit;
      refusal_told = refusal_told;
      receiver_told = part-told receiver_of (λ (o : Order). o.receiver) (λ o r s n v. omega arith);
      sender_told = part-told sender_of (λ (o : Order). o.sender) (λ o r s n v. omega arith);
      number_told = part-told number_of (λ (o : Order). o.number) (λ o r s n v. omega arith);
      value_told = part-told value_of (λ (o : Order). o.value) (λ o r s n v. omega arith);
      place-told = λ v i. field_at (shown_of v) i (shown_bytes v);
      read_never = read_never;
      write_never = λ o out e. false≢true (writes_give o out 11 (minus_eleven (writes order_ok order_frame o out).0 e));
    }
