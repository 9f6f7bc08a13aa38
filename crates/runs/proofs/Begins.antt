-- One list begins another exactly if the other is it with a rest.
use Rattle.std.proofs.Common.{◌≡◌, ℕ, zero, suc, ◌<◌, ◌↔◌, List, [], ◌∷◌, ◌++◌, length, refl, le_of_suc-le-suc, not-suc-le-zero, arith, length-append}
use mathlib.Core.Option.{some}
use lib.ListN.{get_elem?}
use Rattle.runs.specs.Runs.{Begins}

module _ {A : Type 0} where
  begins_rest : (xs ys : List A) → Begins xs ys → (rest : List A) × (ys ≡ xs ++ rest)
  begins_rest [] ys h = (ys, refl)
  begins_rest (x ∷ xs) [] h = absurd (not-suc-le-zero h.0)
  begins_rest (x ∷ xs) (y ∷ ys) h =
      let r = begins_rest xs ys (le_of_suc-le-suc h.0, λ i l. h.1 (suc i) (omega arith)) in
      let s : some x ≡ some y = h.1 0 (omega arith) in
      let t = r.1 in
      (r.0, cc)

  rest_at : (xs rest : List A) (i : ℕ) → i < length xs → get_elem? xs i ≡ get_elem? (xs ++ rest) i
  rest_at [] rest i l = absurd (not-suc-le-zero l)
  rest_at (x ∷ xs) rest zero l = refl
  rest_at (x ∷ xs) rest (suc i) l = rest_at xs rest i (le_of_suc-le-suc l)

  rest_begins : (xs rest : List A) → Begins xs (xs ++ rest)
  rest_begins xs rest = (simp length-append (omega arith), rest_at xs rest)

  pub begins_iff : (xs ys : List A) → Begins xs ys ↔ ((rest : List A) × (ys ≡ xs ++ rest))
  begins_iff xs ys = (begins_rest xs ys, λ r. rw r.1 (rest_begins xs r.0))
