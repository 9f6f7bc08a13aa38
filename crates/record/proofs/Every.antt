-- Laws of a test of every element under a map.
use mathlib.Core.Path.{◌≡◌, refl, ap}
use mathlib.Core.Bool.{Bool, true}
use mathlib.Core.List.{List, [], ◌∷◌, map}
use Rattle.std.specs.List.{list_all}
use Rattle.runs.proofs.Cases.{and_both}

module _ {A B : Type 0} (p : A → Bool) (g : A → B) where
  pub every_map : (q : B → Bool) → ((a : A) → p a ≡ true → q (g a) ≡ true) → (l : List A) → list_all p l ≡ true → list_all q (map g l) ≡ true
  every_map q f [] e = refl
  every_map q f (a ∷ l) e = let h = and_both (p a) (list_all p l) e in rw (f a h.0) (every_map q f l h.1)

  pub map_back : (k : B → A) → ((a : A) → p a ≡ true → k (g a) ≡ a) → (l : List A) → list_all p l ≡ true → map k (map g l) ≡ l
  map_back k f [] e = refl
  map_back k f (a ∷ l) e =
      let h = and_both (p a) (list_all p l) e in
      rw (f a h.0) (ap (λ (m : List A). a ∷ m) (map_back k f l h.1))
