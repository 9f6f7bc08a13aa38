-- Digits and the numbers that they stand for: each way gives back the other.
use Prim.Native.Nat.{ℕ, zero, suc, ◌+◌, ◌-◌, ◌*◌, ◌/◌, ◌%◌, ◌^◌, ◌≤◌, ◌<◌}
use mathlib.Core.Path.{◌≡◌, refl, ap, sym, ◌∙◌, subst}
use mathlib.Core.Bool.{Bool, true, false, ◌||◌, not, false≢true}
use mathlib.Core.List.{List, [], ◌∷◌, ◌++◌, append-nil, append_assoc}
use native.Mathlib.Nat.{div-lt_iff_lt-mul, pow-suc, pow-succ', mul_assoc, mul-le-mul_right, le-mul_of_pos_right, one-le-pow, lt_of_lt_of_le}
use native.Mathlib.Omega.{arith}
use lib.Dec.{lit<, eqb, leb}
use lib.ListN.{length, get_or, length-append, get_or-append}
use borrow.Author.Tests.{lt-ltb, le-leb, leb-true, ne_eqb, eqb-false, not-true}
use Rattle.runs.specs.Runs.{Bytes, between}
use Rattle.runs.proofs.Cases.{by_ltb, and_both}
use Rattle.decimal.specs.Decimal.{decimal_of, decimal, value_from, value_of, are_digits, is_numeral}
use Rattle.decimal.proofs.Decimal.{decimal-small, decimal_large, decimal_some, decimal_short, length-small}

-- what is known of a run of digits, one by one
pub digit_first : (b : ℕ) (bs : List ℕ) → are_digits (b ∷ bs) ≡ true → (48 ≤ b) × (b ≤ 57) × (are_digits bs ≡ true)
unfolding are_digits
digit_first b bs h =
    let e = and_both (between 48 57 b) (are_digits bs) h in
    let d = and_both (leb 48 b) (leb b 57) e.0 in
    (leb-true 48 b d.0, leb-true b 57 d.1, e.1)

pub digits_more : (b : ℕ) (bs : List ℕ) → 48 ≤ b → b ≤ 57 → are_digits bs ≡ true → are_digits (b ∷ bs) ≡ true
unfolding are_digits
digits_more b bs l m h = rw (le-leb 48 b l, le-leb b 57 m, h)

digits_append : (u v : List ℕ) → are_digits u ≡ true → are_digits v ≡ true → are_digits (u ++ v) ≡ true
unfolding are_digits
digits_append [] v hu hv = hv
digits_append (b ∷ u) v hu hv =
    let d = digit_first b u hu in
    digits_more b (u ++ v) d.0 d.1 (digits_append u v d.2 hv)

digit_one : (d : ℕ) → d < 10 → are_digits ((48 + d) ∷ []) ≡ true
unfolding are_digits
digit_one d h = digits_more (48 + d) [] (omega arith) (omega arith) refl

-- ---- from digits to numbers

pub value_append : (n : ℕ) (u v : List ℕ) → value_from n (u ++ v) ≡ value_from (value_from n u) v
unfolding value_from
value_append n [] v = refl
value_append n (b ∷ u) v = value_append (n * 10 + (b - 48)) u v

-- the digits so far never stand for more than all
pub value_above : (n : ℕ) (bs : List ℕ) → n ≤ value_from n bs
unfolding value_from
value_above n [] = omega arith
value_above n (b ∷ bs) = omega (arith, value_above (n * 10 + (b - 48)) bs)

none_below : (n k : ℕ) → n < (n + 1) * 10 ^ k
none_below n k = omega (arith, le-mul_of_pos_right {m = 10 ^ k} (n + 1) (one-le-pow k 10 (lit< tt)))

pub value_below : (n k : ℕ) (bs : List ℕ) → are_digits bs ≡ true → length bs ≤ k → value_from n bs < (n + 1) * 10 ^ k
unfolding value_from
value_below n zero [] h l = none_below n zero
value_below n zero (b ∷ bs) h l = absurd (omega arith)
value_below n (suc k) [] h l = none_below n (suc k)
value_below n (suc k) (b ∷ bs) h l =
    let d = digit_first b bs h in
    let below = value_below (n * 10 + (b - 48)) k bs d.2 (omega arith) in
    let step : (n * 10 + (b - 48) + 1) * 10 ^ k ≤ (n + 1) * 10 * 10 ^ k = mul-le-mul_right (10 ^ k) (omega (arith, d.1)) in
    let e : (n + 1) * 10 * 10 ^ k ≡ (n + 1) * 10 ^ suc k = mul_assoc (n + 1) 10 (10 ^ k) ∙ ap (λ (x : ℕ). (n + 1) * x) (sym (pow-succ' 10 k)) in
    lt_of_lt_of_le below (subst (λ (x : ℕ). (n * 10 + (b - 48) + 1) * 10 ^ k ≤ x) e step)

-- ---- from numbers to digits and back

value_of_lem : (k n : ℕ) → n < 10 ^ suc k → value_from 0 (decimal_of (suc k) n) ≡ n
unfolding decimal_of value_from
value_of_lem zero n h = rw (lt-ltb n 10 h) (omega arith)
value_of_lem (suc k) n h =
    by_ltb (λ (l : List ℕ). value_from 0 l ≡ n) n 10 (λ _. omega arith)
    (λ _. let below : n / 10 < 10 ^ suc k = (div-lt_iff_lt-mul (lit< tt)).1 (rw pow-suc at h) in
    let r = value_of_lem k (n / 10) below in
    value_append 0 (decimal_of (suc k) (n / 10)) ((48 + n % 10) ∷ []) ∙ omega arith)

pub value_decimal : (n : ℕ) → n < 2 ^ 64 → value_of (decimal n) ≡ n
unfolding decimal
value_decimal n h = value_of_lem 19 n (omega arith)

digits_of : (k n : ℕ) → are_digits (decimal_of k n) ≡ true
unfolding decimal_of are_digits
digits_of zero n = refl
digits_of (suc k) n =
    by_ltb (λ (l : List ℕ). are_digits l ≡ true) n 10 (λ h. digit_one n h)
    (λ _. digits_append (decimal_of k (n / 10)) ((48 + n % 10) ∷ []) (digits_of k (n / 10)) (digit_one (n % 10) (omega arith)))

decimal_digits : (n : ℕ) → are_digits (decimal n) ≡ true
unfolding decimal
decimal_digits n = digits_of 20 n

digits_bytes : (u : List ℕ) → are_digits u ≡ true → Bytes u
digits_bytes [] h i = lit< tt
digits_bytes (b ∷ u) h zero = omega (arith, (digit_first b u h).1)
digits_bytes (b ∷ u) h (suc i) = digits_bytes u (digit_first b u h).2 i

pub decimal_bytes : (n : ℕ) → Bytes (decimal n)
decimal_bytes n = digits_bytes (decimal n) (decimal_digits n)

-- digits behind those of a number that is not 0
pub decimal_from_lem : (bs : List ℕ) (n : ℕ) → 1 ≤ n → are_digits bs ≡ true → value_from n bs < 2 ^ 64 → decimal (value_from n bs) ≡ decimal n ++ bs
unfolding value_from
decimal_from_lem [] n o h f = sym (append-nil (decimal n))
decimal_from_lem (b ∷ bs) n o h f =
    let d = digit_first b bs h in
    let next : ℕ = n * 10 + (b - 48) in
    let small = value_above next bs in
    let high : next / 10 ≡ n = omega (arith, d.0, d.1) in
    let low : 48 + next % 10 ≡ b = omega (arith, d.0, d.1) in
    let large : decimal next ≡ decimal n ++ (b ∷ []) = decimal_large next (omega arith) (omega arith) ∙ rw (high, low) in
    decimal_from_lem bs next (omega arith) d.2 f ∙ ap (λ (l : List ℕ). l ++ bs) large ∙ append_assoc (decimal n) (b ∷ []) bs

-- ---- numerals

-- a run of 1 to most digits, the first of several not 0
pub record Numeral (most : ℕ) (bs : List ℕ) : Type 0 where
  pub some : 1 ≤ length bs
  pub few : length bs ≤ most
  pub digits : are_digits bs ≡ true
  pub first : 2 ≤ length bs → get_or bs 0 0 ≡ 48 → ⊥

not_first : (a b : Bool) → a || not b ≡ true → a ≡ false → b ≡ false
not_first true b h e = absurd (false≢true (sym e))
not_first false b h e = not-true b h

pub numeral : (most : ℕ) (bs : List ℕ) → is_numeral most bs ≡ true → Numeral most bs
numeral most bs h =
    let a = and_both (leb 1 (length bs)) _ h in
    let b = and_both (leb (length bs) most) _ a.1 in
    let d = and_both (are_digits bs) (eqb (length bs) 1 || not (eqb (get_or bs 0 0) 48)) b.1 in
    record {
      some = leb-true 1 (length bs) a.0;
      few = leb-true (length bs) most b.0;
      digits = d.0;
      first = λ l. eqb-false (get_or bs 0 0) 48 (not_first (eqb (length bs) 1) (eqb (get_or bs 0 0) 48) d.1 (ne_eqb (length bs) 1 (λ e. omega arith)));
    }

first_or : (l f : ℕ) → 1 ≤ l → (2 ≤ l → f ≡ 48 → ⊥) → eqb l 1 || not (eqb f 48) ≡ true
first_or l f o h = go (eqb l 1) refl
  where
    go : (t : Bool) → eqb l 1 ≡ t → t || not (eqb f 48) ≡ true
    go true e = refl
    go false e = rw (ne_eqb f 48 (h (let k = eqb-false l 1 e in omega arith)))

pub is_numeral_lem : {most : ℕ} {bs : List ℕ} → Numeral most bs → is_numeral most bs ≡ true
is_numeral_lem {most} {bs} n =
    rw (le-leb 1 (length bs) n.some, le-leb (length bs) most n.few, n.digits) (first_or (length bs) (get_or bs 0 0) n.some n.first)

value_first : (b : ℕ) (bs : List ℕ) → value_of (b ∷ bs) ≡ value_from (b - 48) bs
unfolding value_from
value_first b bs = let e : 0 * 10 + (b - 48) ≡ b - 48 = omega arith in ap (λ (x : ℕ). value_from x bs) e

-- a numeral is the decimal of its value
pub decimal_value : (most : ℕ) (bs : List ℕ) → Numeral most bs → value_of bs < 2 ^ 64 → decimal (value_of bs) ≡ bs
unfolding value_from
decimal_value most [] n f = absurd (omega (arith, n.some))
decimal_value most (b ∷ []) n f =
    let d = digit_first b [] n.digits in
    let e : 48 + (b - 48) ≡ b = omega (arith, d.0) in
    ap decimal (value_first b []) ∙ decimal-small (b - 48) (omega (arith, d.1)) ∙ ap (λ (x : ℕ). x ∷ []) e
decimal_value most (b ∷ a ∷ bs) n f =
    let d = digit_first b (a ∷ bs) n.digits in
    let e : 48 + (b - 48) ≡ b = omega (arith, d.0) in
    let o : 1 ≤ b - 48 = above b d.0 (n.first (omega arith)) in
    ap decimal (value_first b (a ∷ bs)) ∙ decimal_from_lem (a ∷ bs) (b - 48) o d.2 (rw (value_first b (a ∷ bs)) at f) ∙ ap (λ (l : List ℕ). l ++ (a ∷ bs)) (decimal-small (b - 48) (omega (arith, d.1)) ∙ ap (λ (x : ℕ). x ∷ []) e)
  where
    above : (x : ℕ) → 48 ≤ x → (x ≡ 48 → ⊥) → 1 ≤ x - 48
    above x l h = omega (arith, l, h)

first_of : (k n : ℕ) → 1 ≤ n → n < 10 ^ suc k → (1 ≤ length (decimal_of (suc k) n)) × (get_or (decimal_of (suc k) n) 0 0 ≡ 48 → ⊥)
unfolding decimal_of
first_of zero n o h = rw (lt-ltb n 10 h) (omega arith, λ e. omega arith)
first_of (suc k) n o h =
    by_ltb (λ (l : List ℕ). (1 ≤ length l) × (get_or l 0 0 ≡ 48 → ⊥)) n 10 (λ _. (omega arith, λ e. omega arith))
    (λ m. let below : n / 10 < 10 ^ suc k = (div-lt_iff_lt-mul (lit< tt)).1 (rw pow-suc at h) in
    let r = first_of k (n / 10) (omega arith) below in
    let high : List ℕ = decimal_of (suc k) (n / 10) in
    (rw (length-append high ((48 + n % 10) ∷ [])) (omega arith), λ e. r.1 (sym (get_or-append high ((48 + n % 10) ∷ []) 0 0 r.0) ∙ e)))

pub decimal-first : (n : ℕ) → 1 ≤ n → n < 2 ^ 64 → get_or (decimal n) 0 0 ≡ 48 → ⊥
unfolding decimal
decimal-first n o f = (first_of 19 n o (omega arith)).1

-- and the decimal of a number is a numeral, of as many digits as the number needs
pub decimal_numeral : (k n : ℕ) → n < 2 ^ 64 → n < 10 ^ suc k → Numeral (suc k) (decimal n)
decimal_numeral k n f h =
    record {
      some = decimal_some n;
      few = decimal_short k n h f;
      digits = decimal_digits n;
      first = λ l. decimal-first n (nonzero n l) f;
    }
  where
    nonzero : (n : ℕ) → 2 ≤ length (decimal n) → 1 ≤ n
    nonzero zero l = absurd (omega (arith, length-small 0 (lit< tt)))
    nonzero (suc n) l = omega arith

pub no_numeral : (most : ℕ) (bs : List ℕ) → (Numeral most bs → ⊥) → is_numeral most bs ≡ false
no_numeral most bs h = go (is_numeral most bs) refl
  where
    go : (t : Bool) → is_numeral most bs ≡ t → is_numeral most bs ≡ false
    go true e = absurd (h (numeral most bs e))
    go false e = e

-- of several digits the first decides
pub several : (most : ℕ) (bs : List ℕ) → 2 ≤ length bs → length bs ≤ most → are_digits bs ≡ true → not (eqb (get_or bs 0 0) 48) ≡ is_numeral most bs
several most bs l m h = rw (le-leb 1 (length bs) (omega arith), le-leb (length bs) most m, h, ne_eqb (length bs) 1 (λ e. omega arith))
