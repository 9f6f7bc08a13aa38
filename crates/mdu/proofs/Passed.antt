-- What the tests of a header say together.
use Rattle.std.proofs.Common.{◌≡◌, ℕ, true, eqb, List, get_or, refl, eq-eqb, ne_eqb, eqb-true}
use borrow.Author.Tests.{eqb-false, not-false}
use Rattle.framing.proofs.Tests.{none_fires}
use Rattle.mdu.specs.Frame.{length_ok, header_sum}
use Rattle.mdu.specs.Rules.{stated, header_tests, header_fault}

-- a header of which no test fires
pub record Passed (g : List ℕ) : Type 0 where
  pub version : get_or g 1 0 ≡ 1
  pub address : get_or g 4 0 ≡ 0 → ⊥
  pub checked : get_or g 5 0 ≡ header_sum g
  pub allowed : length_ok (stated g) ≡ true

module _ (g : List ℕ) where
  pub passed : header_fault g ≡ 0 → Passed g
  unfolding header_fault
  passed h =
      let t = none_fires (header_tests g) refl h in
      let a = t.0 in
      let b = t.1.0 in
      let c = t.1.1.0 in
      let d = t.1.1.1.0 in
      record {
        version = eqb-true (get_or g 1 0) 1 (not-false (eqb (get_or g 1 0) 1) cc);
        address = eqb-false (get_or g 4 0) 0 cc;
        checked = eqb-true (get_or g 5 0) (header_sum g) (not-false (eqb (get_or g 5 0) (header_sum g)) cc);
        allowed = not-false (length_ok (stated g)) cc;
      }

  pub no_fault : Passed g → header_fault g ≡ 0
  unfolding header_fault
  no_fault p = rw (eq-eqb (get_or g 1 0) 1 p.version, ne_eqb (get_or g 4 0) 0 p.address, eq-eqb (get_or g 5 0) (header_sum g) p.checked, p.allowed)
