-- What the number of the first test that fires says of the tests.
use Rattle.std.proofs.Common.{◌≡◌, ℕ, Bool, true, false, cond, not, ◌&&◌, eqb, leb, List, [], ◌∷◌, refl, arith, leb-true}
use Rattle.runs.proofs.Cases.{and_both}
use Rattle.framing.specs.Claims.{AllOf}
use Rattle.framing.specs.Tests.{first_of}

-- no test has the number 0
abbrev pub numbered : List (Bool × ℕ) → Bool
numbered [] = true
numbered ((fires, number) ∷ tests) = leb 1 number && numbered tests

-- none fires
abbrev pub Silent : List (Bool × ℕ) → Type 0
Silent tests = AllOf (λ (t : Bool × ℕ). t.0 ≡ false) tests

-- where the number is 0, none fires, and where none fires it is 0
pub none_fires : (tests : List (Bool × ℕ)) → numbered tests ≡ true → first_of tests ≡ 0 → Silent tests
none_fires [] n h = tt
none_fires ((true, number) ∷ tests) n h = absurd (let l = leb-true 1 number (and_both (leb 1 number) (numbered tests) n).0 in omega arith)
none_fires ((false, number) ∷ tests) n h = (refl, none_fires tests (and_both (leb 1 number) (numbered tests) n).1 h)

pub silent : (tests : List (Bool × ℕ)) → Silent tests → first_of tests ≡ 0
silent [] h = refl
silent ((fires, number) ∷ tests) h = rw h.0 (silent tests h.1)

-- what holds of 0 and of the number of each test holds of that of the first
pub of_first : (P : ℕ → Type 0) (tests : List (Bool × ℕ)) → P 0 → AllOf (λ (t : Bool × ℕ). P t.1) tests → P (first_of tests)
of_first P [] z h = z
of_first P ((true, number) ∷ tests) z h = h.0
of_first P ((false, number) ∷ tests) z h = of_first P tests z h.1

-- a call that two tests come before: refused by the first, by the second, or by neither
pub by_two : {A : Type 0} (P : A → Type 0) (a b : Bool) (m n : ℕ) (x : A) (y : ℕ → A) → eqb m 0 ≡ false → eqb n 0 ≡ false
    → (a ≡ false → P (y m)) → (a ≡ true → b ≡ false → P (y n)) → (a ≡ true → b ≡ true → P x)
    → let fault = first_of ((not a, m) ∷ (not b, n) ∷ []) in P (cond (eqb fault 0) x (y fault))
by_two P false b m n x y s t h k l = rw s (h refl)
by_two P true false m n x y s t h k l = rw t (k refl refl)
by_two P true true m n x y s t h k l = l refl refl
