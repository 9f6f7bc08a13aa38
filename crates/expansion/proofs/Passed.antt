-- What the tests at the end of a frame say together.
use Prim.Native.Nat.{ℕ, ◌≤◌}
use mathlib.Core.Path.{◌≡◌, refl}
use mathlib.Core.Bool.{true}
use mathlib.Core.List.{List}
use lib.ListN.{length}
use borrow.Author.Tests.{ltb-false, le-ltb, not-false}
use native.Mathlib.Omega.{arith}
use Rattle.runs.proofs.Cases.{by_ltb}
use Rattle.framing.proofs.Tests.{none_fires}
use Rattle.expansion.specs.Rules.{check_right, fields_ok, tests, fault_of}

-- gathered bytes of which no test fires
pub record Passed (g : List ℕ) : Type 0 where
  pub long : 8 ≤ length g
  pub checked : check_right g ≡ true
  pub fields : fields_ok g ≡ true

module _ (g : List ℕ) where
  pub passed : fault_of g ≡ 0 → Passed g
  unfolding fault_of
  passed h =
      let t = none_fires (tests g) refl h in
      record { long = ltb-false (length g) 8 t.0; checked = not-false _ t.1.0; fields = not-false _ t.1.1.0 }

  pub no_fault : Passed g → fault_of g ≡ 0
  unfolding fault_of
  no_fault p = rw (le-ltb (length g) 8 p.long, p.checked, p.fields)

  -- the CRC is compared only where there is one
  pub checked_long : fault_of g ≡ 8 → 8 ≤ length g
  unfolding fault_of
  checked_long = by_ltb (λ (n : ℕ). n ≡ 8 → 8 ≤ length g) (length g) 8 (λ _ e. absurd (omega arith)) (λ l _. l)
