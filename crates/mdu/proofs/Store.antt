-- What the rules make of a gathered byte, by the store after it.
use Rattle.std.proofs.Common.{◌≡◌, ℕ, ◌+◌, ◌<◌, List, [], ◌∷◌, ◌++◌, length, take, set, sym, ap, ◌∙◌, add-one, arith, length-take-le, take-suc-set, eq-eqb, ne_eqb}
use mathlib.Core.Option.{none}
use Rattle.mdu.specs.Rules.{in_header, in_body, enter, on_byte}

module _ (store : List ℕ) (at b : ℕ) where
  pub more-take : at < length store → take (at + 1) (set store at b) ≡ take at store ++ (b ∷ [])
  more-take h = rw add-one (take-suc-set store at b h)

  module _ (h : at < length store) where
    taken : length (take at store) ≡ at
    taken = length-take-le at store (omega arith)

    -- byte six
    pub header_enters : at ≡ 5 → on_byte (in_header (take at store)) b ≡ enter (take 6 (set store at b))
    header_enters e =
        let k : 6 ≡ at + 1 = omega arith in
        rw (eq-eqb (length (take at store)) 5 (taken ∙ e), k) (ap enter (sym (more-take h)))

    -- a byte of a body of k before its last
    pub body_goes_on : (k : ℕ) → (at ≡ 7 + k → ⊥) → on_byte (in_body k (take at store)) b ≡ (in_body k (take at store ++ (b ∷ [])), none)
    body_goes_on k n = rw (ne_eqb (length (take at store)) (7 + k) (λ e. n (sym taken ∙ e)))
