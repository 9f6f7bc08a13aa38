-- The data of an order: the word that they begin with, and the value of their digits.
use Prim.Native.Nat.{ℕ, ◌+◌, ◌-◌, ◌*◌, ◌≤◌, ◌<◌}
use mathlib.Core.Path.{◌≡◌, refl, ap, ap₂, sym, ◌∙◌}
use mathlib.Core.Bool.{Bool, true, ◌&&◌, false≢true}
use mathlib.Core.List.{List, [], ◌∷◌, ◌++◌}
use native.Mathlib.Omega.{arith}
use lib.Dec.{eqb}
use Rattle.std.specs.Prelude.{nat_eq}
use lib.Pointwise.{pointwise}
use lib.ListN.{length, get_or, take, drop, drop_of_length-le}
use borrow.Author.Tests.{eq-eqb, eqb-true}
use Rattle.runs.proofs.Bytes.{drop-next}
use Rattle.runs.proofs.Cases.{and_both}
use Rattle.decimal.specs.Decimal.{are_digits, value_from, value_of}
use Rattle.decimal.proofs.Value.{digit_first, value_above, value_below}
use Rattle.display.specs.Profile.{most_digits, begins_with}

-- ---- a run that begins with a word

-- as the library compares it
pub begins_starts : (w u : List ℕ) → pointwise nat_eq w (take (length w) u) ≡ begins_with w u
unfolding begins_with
begins_starts [] u = refl
begins_starts (a ∷ w) [] = refl
begins_starts (a ∷ w) (b ∷ u) = ap (λ (t : Bool). eqb a b && t) (begins_starts w u)

pub begins_is : (w u : List ℕ) → begins_with w u ≡ true → u ≡ w ++ drop (length w) u
unfolding begins_with
begins_is [] u h = refl
begins_is (a ∷ w) [] h = absurd (false≢true h)
begins_is (a ∷ w) (b ∷ u) h =
    let e = and_both (eqb a b) (begins_with w u) h in
    ap₂ (λ (x : ℕ) (l : List ℕ). x ∷ l) (sym (eqb-true a b e.0)) (begins_is w u e.1)

pub begins_append : (w u : List ℕ) → begins_with w (w ++ u) ≡ true
unfolding begins_with
begins_append [] u = refl
begins_append (a ∷ w) u = rw (eq-eqb a a refl) (begins_append w u)

-- ---- their value

-- the first i digits stand for v
pub record Valued (u : List ℕ) (v i : ℕ) : Type 0 where
  pub within : i ≤ length u
  pub rest : value_from v (drop i u) ≡ value_of u
  pub digits : are_digits (drop i u) ≡ true
  pub small : value_of u < 100000000

-- the next digit, and the number with it
pub record Next (u : List ℕ) (v i : ℕ) : Type 0 where
  pub low : 48 ≤ get_or u i 0
  pub high : get_or u i 0 ≤ 57
  pub small : v * 10 + (get_or u i 0 - 48) < 100000000
  pub after : Valued u (v * 10 + (get_or u i 0 - 48)) (i + 1)

pub valued_none : (u : List ℕ) → are_digits u ≡ true → length u ≤ most_digits → Valued u 0 0
valued_none u h l = record { within = omega arith; rest = refl; digits = h; small = omega (arith, value_below 0 most_digits u h l) }

pub valued_next : {u : List ℕ} {v i : ℕ} → Valued u v i → i < length u → Next u v i
unfolding value_from
valued_next {u} {v} {i} d h =
    let all : are_digits (get_or u i 0 ∷ drop (i + 1) u) ≡ true = sym (ap are_digits (drop-next u i h)) ∙ d.digits in
    let f = digit_first (get_or u i 0) (drop (i + 1) u) all in
    let more : value_from (v * 10 + (get_or u i 0 - 48)) (drop (i + 1) u) ≡ value_of u = sym (ap (value_from v) (drop-next u i h)) ∙ d.rest in
    let above = value_above (v * 10 + (get_or u i 0 - 48)) (drop (i + 1) u) in
    record {
      low = f.0;
      high = f.1;
      small = omega (arith, above, more, d.small);
      after = record { within = omega arith; rest = more; digits = f.2; small = d.small };
    }

pub valued_all : {u : List ℕ} {v i : ℕ} → Valued u v i → length u ≤ i → v ≡ value_of u
unfolding value_from
valued_all {u} {v} {i} d h = sym (ap (value_from v) (drop_of_length-le u h)) ∙ d.rest
