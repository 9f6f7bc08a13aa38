-- What the tests at the end of a frame say together.
use Prim.Native.Nat.{ℕ, ◌-◌, ◌≤◌}
use mathlib.Core.Path.{◌≡◌, refl}
use mathlib.Core.List.{List}
use lib.ListN.{length, get_or}
use borrow.Author.Tests.{ltb-false, le-ltb, eqb-true, eq-eqb, not-false}
use Rattle.framing.proofs.Tests.{none_fires}
use Rattle.dle.specs.Rules.{bytes_behind, tests, fault_of}

-- gathered bytes of which no test fires
pub record Passed (g : List ℕ) : Type 0 where
  pub long : 4 ≤ length g
  pub present : bytes_behind (get_or g 2 0) ≡ length g - 3

module _ (g : List ℕ) where
  pub passed : fault_of g ≡ 0 → Passed g
  unfolding fault_of
  passed h =
      let t = none_fires (tests g) refl h in
      record { long = ltb-false (length g) 4 t.0; present = eqb-true (bytes_behind (get_or g 2 0)) (length g - 3) (not-false _ t.1.0) }

  pub no_fault : Passed g → fault_of g ≡ 0
  unfolding fault_of
  no_fault p = rw (le-ltb (length g) 4 p.long, eq-eqb (bytes_behind (get_or g 2 0)) (length g - 3) p.present)
