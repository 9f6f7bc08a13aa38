-- A writer's answer as a signed number: the length and the number of a refusal fit 31 bits, so that neither is changed by its sign.
use Prim.Native.Nat.{ℕ, zero, suc, ◌^◌, ◌≤◌, ◌<◌}
use native.Mathlib.Omega.{arith}
use mathlib.Core.Path.{◌≡◌, refl, sym, ap, subst}
use mathlib.Core.Bool.{Bool, true}
use mathlib.Core.List.{List}
use lib.IntN.{ℤ, pos, negsuc, neg_ℤ, ◌-ℤ◌}
use lib.Dec.{lit<}
use lib.ListN.{length}
use borrow.Author.Tests.{lt-ltb}
use mir.Syntax.{w32}
use mir.Val.{SFits, to_z, of_z}
use mir.ValLaws.{to_z_pos, to_z-of_z}
use Rattle.framing.specs.Answer.{Outcome}
use Rattle.framing.specs.Writer.{writes}
use Rattle.framing.specs.Link.{Link, write_on}
use Rattle.framing.proofs.Stored.{by_writer}
use Rattle.host.specs.Write.{int32_of, writes_to}
use Rattle.host.specs.Steps.{Short}
use Rattle.host.specs.Claims.{FrameBound}

-- 0 - n
negated : (n : ℕ) → pos 0 -ℤ pos n ≡ neg_ℤ (pos n)
negated zero = refl
negated (suc n) = rw (lt-ltb 0 (suc n) (omega arith)) (ap negsuc (omega arith))

negated_fits : (n : ℕ) → n < 2 ^ 31 → SFits w32 (neg_ℤ (pos n))
negated_fits zero h = record { sfits = lit< tt }
negated_fits (suc n) h = record { sfits = omega arith }

module _ (n : ℕ) (h : n < 2 ^ 31) where
  is : pos 0 -ℤ to_z w32 n ≡ neg_ℤ (pos n)
  is = rw (to_z_pos w32 n h) (negated n)

  pub minus_fits : SFits w32 (pos 0 -ℤ to_z w32 n)
  minus_fits = rw is (negated_fits n h)

  pub minus_value : to_z w32 (of_z w32 (pos 0 -ℤ to_z w32 n)) ≡ neg_ℤ (pos n)
  minus_value = rw is (to_z-of_z w32 (neg_ℤ (pos n)) (negated_fits n h))

-- a call of a writer of short frames, which answered o and left `after`
module _ {M : Type 0} (ok : M → Bool) (frame : M → List ℕ) (bound : (m : M) → ok m ≡ true → length (frame m) ≤ 2066) (m : M) (out : List ℕ)
    {o : Outcome ℕ} {after : List ℕ} (e : (o, after) ≡ writes ok frame m out) where
  pub call_short : Short o
  call_short =
      subst (λ (w : Outcome ℕ × List ℕ). Short w.0) (sym e)
      (by_writer ok frame m out (λ w. Short w.0) (λ _. tt) (λ _ _. tt) (λ h _. omega (arith, bound m h)))

  pub call_is : (r : ℤ) → SFits w32 r → r ≡ int32_of o
      → ◌≡◌ {A = ℤ × List ℕ} (to_z w32 (of_z w32 r), after) (int32_of (writes ok frame m out).0, (writes ok frame m out).1)
  call_is r f h = rw (to_z-of_z w32 r f, h) (ap (λ (p : Outcome ℕ × List ℕ). (int32_of p.0, p.1)) e)

-- and of a link's writer
module _ (L : Link) (bound : FrameBound L) (m : L.Message) (out : List ℕ) {o : Outcome ℕ} {after : List ℕ} (e : (o, after) ≡ write_on L m out) where
  pub answer_short : Short o
  answer_short = call_short L.ok L.frame bound m out e

  pub answer_is : (r : ℤ) → SFits w32 r → r ≡ int32_of o → (to_z w32 (of_z w32 r), after) ≡ writes_to L m out
  answer_is = call_is L.ok L.frame bound m out e
