-- The elements of a run before the first from low to high.
use Rattle.std.proofs.Common.{◌≡◌, ℕ, zero, suc, ◌+◌, ◌<◌, ◌≤◌, Bool, true, false, cond, List, [], ◌∷◌, length, get_or, drop, sym, refl, ap, ◌∙◌, true≢false, arith, le-leb}
use Rattle.std.proofs.Common.{Option, Some, None, unwrap_or}
use Rattle.std.specs.List.{position_or_len}
use Rattle.std.proofs.lemmas.List.Recursion.{is_position_or_len}
use lib.Dec.{ltb}
use Rattle.runs.specs.Runs.{between, before}
use Rattle.runs.proofs.Bytes.{drop-next}
use Rattle.runs.proofs.Cases.{by_test, by_ltb}

pub first-not : (t : Bool) (n : ℕ) → 0 < cond t 0 (suc n) → t ≡ false
first-not true n h = absurd (omega arith)
first-not false n h = refl

later_less : (t : Bool) (n k : ℕ) → suc k < cond t 0 (suc n) → k < n
later_less true n k h = absurd (omega arith)
later_less false n k h = omega arith

module _ (low high : ℕ) where
  pub between-not : (b : ℕ) → between low high b ≡ false → low ≤ b → b ≤ high → ⊥
  between-not b e l h = true≢false (sym (rw (le-leb low b l, le-leb b high h)) ∙ e)

  pub before_within : (bs : List ℕ) → before low high bs ≤ length bs
  unfolding before
  before_within [] = omega arith
  before_within (b ∷ bs) =
      by_test (λ (n : ℕ). n ≤ suc (length bs)) (between low high b) (λ _. omega arith) (λ _. omega (arith, before_within bs))

  -- none of them is a mark
  pub before-not : (bs : List ℕ) (k : ℕ) → k < before low high bs → between low high (get_or bs k 0) ≡ false
  unfolding before
  before-not [] k h = absurd (omega arith)
  before-not (b ∷ bs) zero h = first-not (between low high b) (before low high bs) h
  before-not (b ∷ bs) (suc k) h = before-not bs k (later_less (between low high b) (before low high bs) k h)

  -- and behind them is a mark, or nothing
  pub before_rest : (bs : List ℕ) → before low high (drop (before low high bs) bs) ≡ 0
  unfolding before
  before_rest [] = refl
  before_rest (b ∷ bs) =
      by_test (λ (n : ℕ). before low high (drop n (b ∷ bs)) ≡ 0) (between low high b) (λ e. rw e) (λ _. before_rest bs)

  -- what a loop that counts up by one keeps: the mark at place k is the first, and what is no mark counts
  module _ (l : List ℕ) (k : ℕ) where
    pub before-mark : k < length l → between low high (get_or l k 0) ≡ true → before low high (drop k l) ≡ 0
    unfolding before
    before-mark h e = ap (before low high) (drop-next l k h) ∙ rw e

    pub before-next : k < length l → between low high (get_or l k 0) ≡ false → before low high (drop k l) ≡ 1 + before low high (drop (k + 1) l)
    unfolding before
    before-next h e = ap (before low high) (drop-next l k h) ∙ rw e (omega arith)

  -- and the library's `position` finds the first mark
  pub before_found : (bs : List ℕ) {r : ℕ} {o : Option ℕ} → r ≡ unwrap_or o (length bs)
      → o ≡ cond (ltb (position_or_len (between low high) bs) (length bs)) (Some (position_or_len (between low high) bs)) None → r ≡ before low high bs
  unfolding before
  before_found bs {r} {o} e f =
      let first : before low high bs ≡ position_or_len (between low high) bs =
      is_position_or_len (before low high) (between low high) refl (λ b l. ap (cond (between low high b) 0) (omega arith)) bs in
      e ∙ ap (λ (x : Option ℕ). unwrap_or x (length bs)) f ∙ rw (← first)
      (by_ltb (λ (x : Option ℕ). unwrap_or x (length bs) ≡ before low high bs) (before low high bs) (length bs) (λ _. refl) (λ h. omega (arith, before_within bs)))
