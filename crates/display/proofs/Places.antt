-- The three places, one by one, are the last three of the digits.
use Prim.Native.Nat.{ℕ, suc, ◌+◌, ◌-◌, ◌/◌, ◌%◌, ◌^◌, ◌≤◌, ◌<◌}
use mathlib.Core.Path.{◌≡◌, refl, ap, sym, ◌∙◌}
use mathlib.Core.List.{List, [], ◌∷◌, ◌++◌, append_assoc}
use native.Mathlib.Omega.{arith}
use lib.Dec.{lit<}
use lib.ListN.{length, drop, replicate, length-append, length-drop}
use lib.Seq.{drop_at}
use borrow.Author.Tests.{lt-ltb, le-ltb}
use Rattle.runs.specs.Runs.{Bytes}
use Rattle.runs.proofs.Bytes.{bytes_append, bytes_more, bytes_two, bytes_drop}
use Rattle.runs.proofs.Cases.{by_ltb}
use Rattle.decimal.specs.Decimal.{decimal, decimal_of}
use Rattle.decimal.proofs.Decimal.{decimal-small, decimal_large}
use Rattle.decimal.proofs.Value.{decimal_bytes}
use Rattle.display.specs.End.{last_three, shown_of}
use Rattle.display.specs.Steps.{place_of}
use Rattle.display.specs.Claims.{ShownLast, ShownExamples}

last_three_lem : (p : List ℕ) (a b d : ℕ) → last_three (p ++ (a ∷ b ∷ d ∷ [])) ≡ a ∷ b ∷ d ∷ []
last_three_lem p a b d =
    drop_at p (a ∷ b ∷ d ∷ []) (length (p ++ (a ∷ b ∷ d ∷ [])) - 3) (omega (arith, length-append p (a ∷ b ∷ d ∷ [])))

-- the last digit, and those before it
last_digit : (n : ℕ) → n < 2 ^ 64 → (p : List ℕ) × (decimal n ≡ p ++ ((48 + n % 10) ∷ []))
last_digit n f =
    by_ltb (λ (x : ℕ). (p : List ℕ) × (decimal n ≡ p ++ ((48 + n % 10) ∷ []))) n 10 {x = 0} {y = 0}
    (λ h. let e : 48 + n ≡ 48 + n % 10 = omega arith in ([], decimal-small n h ∙ ap (λ (x : ℕ). x ∷ []) e))
    (λ h. (decimal (n / 10), decimal_large n h f))

abbrev Shows : ℕ → Type 0
Shows v = place_of v 100 ∷ place_of v 10 ∷ (48 + v % 10) ∷ [] ≡ last_three (32 ∷ 32 ∷ 32 ∷ decimal v)

pub shown_is : (v : ℕ) → v < 2 ^ 64 → place_of v 100 ∷ place_of v 10 ∷ (48 + v % 10) ∷ [] ≡ shown_of v
unfolding shown_of
shown_is v f =
    by_ltb (λ (x : ℕ). Shows v) v 10 {x = 0} {y = 0} one
    (λ h. by_ltb (λ (x : ℕ). Shows v) v 100 {x = 0} {y = 0} (two h) three)
  where
    one : v < 10 → Shows v
    one h =
        let e : v % 10 ≡ v = omega arith in
        rw (decimal-small v h, lt-ltb v 100 (omega arith), lt-ltb v 10 h, e)

    two : 10 ≤ v → v < 100 → Shows v
    two h l =
        let e : v / 10 % 10 ≡ v / 10 = omega arith in
        let s : v / 10 < 10 = omega arith in
        rw (decimal_large v h f, decimal-small (v / 10) s, lt-ltb v 100 l, le-ltb v 10 h, e)

    three : 100 ≤ v → Shows v
    three h =
        let (p, q) = last_digit (v / 10 / 10) (omega arith) in
        let e : v / 10 / 10 % 10 ≡ v / 100 % 10 = omega arith in
        let all : decimal v ≡ p ++ ((48 + v / 100 % 10) ∷ (48 + v / 10 % 10) ∷ (48 + v % 10) ∷ []) =
        decimal_large v (omega arith) f
        ∙ ap (λ (l : List ℕ). l ++ ((48 + v % 10) ∷ []))
        (decimal_large (v / 10) (omega arith) (omega arith) ∙ ap (λ (l : List ℕ). l ++ ((48 + v / 10 % 10) ∷ [])) (q ∙ ap (λ (x : ℕ). p ++ ((48 + x) ∷ [])) e))
        ∙ ap (λ (l : List ℕ). l ++ ((48 + v % 10) ∷ [])) (append_assoc p ((48 + v / 100 % 10) ∷ []) ((48 + v / 10 % 10) ∷ []))
        ∙ append_assoc p ((48 + v / 100 % 10) ∷ (48 + v / 10 % 10) ∷ []) ((48 + v % 10) ∷ []) in
        rw (le-ltb v 100 h, le-ltb v 10 (omega arith))
        (sym (ap (λ (l : List ℕ). last_three (32 ∷ 32 ∷ 32 ∷ l)) all ∙ last_three_lem (32 ∷ 32 ∷ 32 ∷ p) (48 + v / 100 % 10) (48 + v / 10 % 10) (48 + v % 10)))

-- ---- as claimed

long : (a b d : ℕ) (l : List ℕ) → last_three (32 ∷ 32 ∷ 32 ∷ a ∷ b ∷ d ∷ l) ≡ last_three (a ∷ b ∷ d ∷ l)
long a b d l =
    let n : ℕ = length l in
    let e : suc (suc (suc (suc (suc (suc n))))) - 3 ≡ suc (suc (suc (suc (suc (suc n)) - 3))) = omega arith in
    ap (λ (k : ℕ). drop k (32 ∷ 32 ∷ 32 ∷ a ∷ b ∷ d ∷ l)) e

three : (a b d : ℕ) (l : List ℕ) → length (last_three (a ∷ b ∷ d ∷ l)) ≡ 3
three a b d l = length-drop (suc (suc (suc (length l))) - 3) (a ∷ b ∷ d ∷ l) ∙ omega arith

places_of : (l : List ℕ) → (length (last_three (32 ∷ 32 ∷ 32 ∷ l)) ≡ 3) × (last_three (32 ∷ 32 ∷ 32 ∷ l) ≡ replicate (3 - length l) 32 ++ last_three l)
places_of [] = (refl, refl)
places_of (a ∷ []) = (refl, refl)
places_of (a ∷ b ∷ []) = (refl, refl)
places_of (a ∷ b ∷ d ∷ l) =
    let none : 3 - suc (suc (suc (length l))) ≡ 0 = omega arith in
    (ap length (long a b d l) ∙ three a b d l, long a b d l ∙ sym (ap (λ (k : ℕ). replicate k 32 ++ last_three (a ∷ b ∷ d ∷ l)) none))

pub shown-last : ShownLast
unfolding shown_of
shown-last v = places_of (decimal v)

pub shown_bytes : (v : ℕ) → Bytes (shown_of v)
unfolding shown_of
shown_bytes v =
    bytes_drop (length (32 ∷ 32 ∷ 32 ∷ decimal v) - 3) (32 ∷ 32 ∷ 32 ∷ decimal v)
    (bytes_append (32 ∷ 32 ∷ 32 ∷ []) (decimal v) spaces (decimal_bytes v))
  where
    spaces : Bytes (32 ∷ 32 ∷ 32 ∷ [])
    spaces = bytes_more (32 ∷ 32 ∷ []) 32 (bytes_two 32 32 (lit< tt) (lit< tt)) (lit< tt)

pub shown_examples : ShownExamples
unfolding shown_of decimal decimal_of
shown_examples = (refl, refl, refl, refl, refl)
