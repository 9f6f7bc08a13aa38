-- What is laid into memory, place by place.
use Prim.Native.Nat.{ℕ, zero, suc, ◌+◌, ◌<◌}
use mathlib.Core.Path.{◌≡◌, refl, ap, ◌∙◌}
use native.Mathlib.Omega.{arith}
use lib.ListN.{length, get_or}
use Rattle.vector_text.specs.Laid.{laid_from, laid}

module _ (f : ℕ → ℕ) where
  pub length-laid : (k n : ℕ) → length (laid_from f k n) ≡ n
  unfolding laid_from
  length-laid k zero = refl
  length-laid k (suc n) = ap suc (length-laid (suc k) n)

  from_at : (k n i : ℕ) → i < n → get_or (laid_from f k n) i 0 ≡ f (k + i)
  unfolding laid_from
  from_at k zero i h = absurd (omega arith)
  from_at k (suc n) zero h = ap f (omega arith)
  from_at k (suc n) (suc i) h = from_at (suc k) n i (omega arith) ∙ ap f (omega arith)

  pub laid-at : (n i : ℕ) → i < n → get_or (laid f n) i 0 ≡ f i
  laid-at n i h = from_at 0 n i h ∙ ap f (omega arith)
