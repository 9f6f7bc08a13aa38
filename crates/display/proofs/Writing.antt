-- What the writer stores for its data is the word and the digits.
use Prim.Native.Nat.{ℕ, ◌+◌, ◌≤◌}
use mathlib.Core.Path.{◌≡◌, ap, ◌∙◌}
use mathlib.Core.Bool.{false}
use mathlib.Core.List.{List, [], ◌∷◌, ◌++◌}
use native.Mathlib.Omega.{arith}
use lib.ListN.{length, take, drop, length-append}
use lib.Seq.{sets, sets-eq, take_at}
use Rattle.framing.specs.Answer.{Outcome, done, refused, count_of, stored_at}
use Rattle.framing.proofs.Stored.{stored_done, stored_fits}
use Rattle.decimal.specs.Decimal.{decimal}
use Rattle.decimal.proofs.Value.{decimal_numeral}
use Rattle.framing.specs.Writer.{writes}
use Rattle.pcs.specs.Frame.{with_fields, ok, frame}
use Rattle.display.specs.Profile.{word, most_digits, largest, order_ok, order_frame}
use Rattle.display.specs.declared.Order.{Order}
use borrow.Author.Tests.{le-leb}

-- the word, and room for the digits
abbrev pub blank : List ℕ
blank = word ++ (32 ∷ 32 ∷ 32 ∷ 32 ∷ 32 ∷ 32 ∷ 32 ∷ 32 ∷ [])

pub few_digits : (v : ℕ) → v ≤ largest → length (decimal v) ≤ most_digits
few_digits v h = (decimal_numeral 7 v (omega arith) (omega arith)).few

module _ (v : ℕ) (o : Outcome ℕ) (after : List ℕ) (most : v ≤ largest) (e : (o, after) ≡ stored_at (decimal v) blank 5) where
  fits : (count_of o ≡ length (decimal v)) × (after ≡ sets blank 5 (decimal v))
  fits = stored_fits (decimal v) blank 5 after o e (omega (arith, few_digits v most))

  pub digits_count : count_of o ≤ most_digits
  digits_count = omega (arith, fits.0, few_digits v most)

  pub text_is : (end : ℕ) → end ≡ 5 + count_of o → take end after ≡ word ++ decimal v
  text_is end n =
      ap (take end) (fits.1 ∙ sets-eq (decimal v) blank 5 (omega (arith, few_digits v most)))
      ∙ take_at (word ++ decimal v) (drop (5 + length (decimal v)) blank) end (length-append word (decimal v) ∙ omega (arith, fits.0))

-- the digits of a value that an order carries fit behind the word
pub digits_fit : (v k : ℕ) (after : List ℕ) → v ≤ largest → (refused k, after) ≡ stored_at (decimal v) blank 5 → ⊥
digits_fit v k after most e =
    let d : ◌≡◌ {A = Outcome ℕ × List ℕ} (refused k, after) (done (length (decimal v)), sets blank 5 (decimal v)) =
    e ∙ stored_done (decimal v) blank 5 (omega (arith, few_digits v most)) in
    let told : refused k ≡ done (length (decimal v)) = ap (λ (x : Outcome ℕ × List ℕ). x.0) d in
    let z : ◌≡◌ {A = ℕ} 0 1 = cc in
    omega (arith, z)

-- so the message that PCS is handed is the order's
pub order-written : (o : Order) (u memory : List ℕ) (x : Outcome ℕ × List ℕ) → o.value ≤ largest → u ≡ word ++ decimal o.value
    → x ≡ writes ok frame (with_fields o.receiver o.sender 1 o.number 1 1 false u) memory → x ≡ writes order_ok order_frame o memory
order-written o u memory x h t e =
    rw (le-leb o.value largest h)
    (e ∙ ap (λ (p : List ℕ). writes ok frame (with_fields o.receiver o.sender 1 o.number 1 1 false p) memory) t)
