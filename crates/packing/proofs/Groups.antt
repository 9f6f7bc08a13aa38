-- Lists cut into groups of m, of which only the last can be shorter.
use Rattle.std.proofs.Common.{◌≡◌, ℕ, zero, suc, ◌+◌, ◌-◌, ◌<◌, ◌≤◌, min, List, [], ◌∷◌, ◌++◌, length, take, drop, append-nil, le_refl, arith, length-drop, take-append-drop, drop_of_length-le, length-take, take_all, take_at, drop_at}

module _ {A : Type 0} where
  -- g is the first group of a list that goes on with r
  abbrev pub First : ℕ → List A → List A → Type 0
  First m g r = (0 < length g) × (length g ≡ min m (length g + length r))

  -- what holds of the empty list, and of a list with a group in front where it holds of the list, holds of all
  pub by_groups : (m : ℕ) → 0 < m → (P : List A → Type 0) → P [] → ((g r : List A) → First m g r → P r → P (g ++ r)) → (l : List A) → P l
  by_groups m pos P nil more l = go (length l) l (le_refl (length l))
    where
      go : (n : ℕ) (l : List A) → length l ≤ n → P l
      go zero [] h = nil
      go (suc n) [] h = nil
      go zero (x ∷ l) h = absurd (omega arith)
      go (suc n) (x ∷ l) h =
          let a : length (take m (x ∷ l)) ≡ min m (suc (length l)) = length-take m (x ∷ l) in
          let b : length (drop m (x ∷ l)) ≡ suc (length l) - m = length-drop m (x ∷ l) in
          rw take-append-drop at (more (take m (x ∷ l)) (drop m (x ∷ l)) (omega arith) (go n (drop m (x ∷ l)) (omega arith)))

  pub first-take : (m : ℕ) (g r : List A) → First m g r → take m (g ++ r) ≡ g
  first-take m g [] f = rw append-nil (take_all m g (omega arith))
  first-take m g (x ∷ r) f = take_at g (x ∷ r) m (omega arith)

  pub first-drop : (m : ℕ) (g r : List A) → First m g r → drop m (g ++ r) ≡ r
  first-drop m g [] f = rw append-nil (drop_of_length-le g {i = m} (omega arith))
  first-drop m g (x ∷ r) f = drop_at g (x ∷ r) m (omega arith)
