-- Laws of the decision over the type, and of the tests of a record's header.
use Prim.Native.Nat.{ℕ, ◌+◌, ◌*◌, ◌≤◌, ◌<◌}
use mathlib.Core.Path.{◌≡◌, refl, sym, ap}
use mathlib.Core.Bool.{Bool, true, false, not, beq, false≢true}
use mathlib.Core.List.{List}
use native.Mathlib.Omega.{arith}
use native.Mathlib.Nat.{mul-le-mul}
use lib.ListN.{length}
use lib.Dec.{eqb, lit≤}
use borrow.Author.Tests.{ltb-true, leb-true, eqb-true, lt-ltb, le-leb, eq-eqb}
use Rattle.runs.proofs.Cases.{by_test, and_both}
use Rattle.std.specs.Prelude.{Option, Some, None}
use Rattle.record.specs.declared.form.Form.{Form}
use Rattle.record.specs.declared.form.Header.{Header}
use Rattle.record.specs.declared.form.Size.{Size}
use Rattle.record.specs.declared.form.Size.TheVariants.{One, Two, Four}
use Rattle.record.specs.Form.{bytes_in, form, form_of, size_in, signed_in, limit_in, size_of, signed_of, limit_of, kind_of, address_of, count_of}
use Rattle.record.specs.Form.{allowed, well_formed}
use Rattle.record.specs.Fares.{same}
use Rattle.record.specs.Helpers.{Found}

-- a test that cannot be true is false
pub is_no : (b : Bool) → (b ≡ true → ⊥) → b ≡ false
is_no true n = absurd (n refl)
is_no false n = refl

-- the test whether a form is of the other signedness, `a != b`, where b is that of the fares
pub other_sign : (a b s : Bool) → b ≡ s → not (beq a b) ≡ true → same s a ≡ false
other_sign true true s e t = absurd (false≢true t)
other_sign true false s e t = rw (← e)
other_sign false true s e t = rw (← e)
other_sign false false s e t = absurd (false≢true t)

pub own_sign : (a b s : Bool) → b ≡ s → not (beq a b) ≡ false → same s a ≡ true
own_sign true true s e t = rw (← e)
own_sign true false s e t = absurd (false≢true (sym t))
own_sign false true s e t = absurd (false≢true (sym t))
own_sign false false s e t = rw (← e)

-- what holds of the five forms, and where there is none, holds of each type number's
pub by_form : (P : Option Form → Type 0) → P (form One false 2000) → P (form Two false 1000) → P (form Two true 1000)
    → P (form Four true 500) → P (form Four false 500) → P None → (kind : ℕ) → P (form_of kind)
unfolding form_of
by_form P p₁ p₂ p₃ p₄ p₅ p₀ kind =
    by_test P (eqb kind 1) (λ _. p₁) (λ _. by_test P (eqb kind 2) (λ _. p₂) (λ _. by_test P (eqb kind 3) (λ _. p₃)
    (λ _. by_test P (eqb kind 4) (λ _. p₄) (λ _. by_test P (eqb kind 5) (λ _. p₅) (λ _. p₀)))))

pub limit_le : (kind : ℕ) → limit_of kind ≤ 2000
limit_le = by_form (λ f. limit_in f ≤ 2000) (lit≤ tt) (lit≤ tt) (lit≤ tt) (lit≤ tt) (lit≤ tt) (lit≤ tt)

pub bytes_le : (size : Size) → bytes_in size ≤ 4
bytes_le One = lit≤ tt
bytes_le Two = lit≤ tt
bytes_le Four = lit≤ tt

bytes_some : (size : Size) → 0 < bytes_in size
bytes_some One = lit≤ tt
bytes_some Two = lit≤ tt
bytes_some Four = lit≤ tt

-- the tests of a header, as facts
pub record Allowed (kind address count : ℕ) : Type 0 where
  pub known : 0 < size_of kind
  pub some : 0 < count
  pub within : address + count ≤ limit_of kind
  pub short : 5 + size_of kind * count ≤ 1024

pub allowed_facts : (kind address count : ℕ) → allowed kind address count ≡ true → Allowed kind address count
unfolding allowed
allowed_facts kind address count e =
    let h = and_both _ _ e in
    let k = and_both _ _ h.1 in
    let l = and_both _ _ k.1 in
    record { known = ltb-true _ _ h.0; some = ltb-true _ _ k.0; within = leb-true _ _ l.0; short = leb-true _ _ l.1 }

pub is_allowed : (kind address count : ℕ) → Allowed kind address count → allowed kind address count ≡ true
unfolding allowed
is_allowed kind address count f =
    simp (lt-ltb _ _ f.known, lt-ltb _ _ f.some, le-leb _ _ f.within, le-leb _ _ f.short)

pub not-allowed : (kind address count : ℕ) → (Allowed kind address count → ⊥) → allowed kind address count ≡ false
not-allowed kind address count n = is_no _ (λ e. n (allowed_facts kind address count e))

-- a type that has no form, and the tests by the form that a type has
pub allowed_none : (kind address count : ℕ) → form_of kind ≡ None → allowed kind address count ≡ false
allowed_none kind address count e = not-allowed kind address count (λ f. let l = rw e at f.known in omega arith)

module _ (kind : ℕ) {f : Form} (is : Some f ≡ form_of kind) where
  limit_is : f.limit ≡ limit_of kind
  limit_is = ap limit_in is

  product_is : (count : ℕ) → bytes_in f.size * count ≡ size_of kind * count
  product_is count = ap (λ o. size_in o * count) is

  pub product_le : (count : ℕ) → count ≤ f.limit → bytes_in f.size * count ≤ 8000
  product_le count h = mul-le-mul {n₂ = 4} {m₂ = 2000} (bytes_le f.size) (omega (arith, limit_is, limit_le kind))

  pub allowed_so : (address count : ℕ) → 0 < count → address + count ≤ f.limit → 5 + bytes_in f.size * count ≤ 1024 → allowed kind address count ≡ true
  allowed_so address count n l s =
      is_allowed kind address count (record {
        known = rw (← is) (bytes_some f.size);
        some = n;
        within = omega (arith, limit_is);
        short = omega (arith, product_is count);
      })

  pub allowed_not : (address count : ℕ) → (0 < count → address + count ≤ f.limit → 5 + bytes_in f.size * count ≤ 1024 → ⊥)
      → allowed kind address count ≡ false
  allowed_not address count n =
      not-allowed kind address count (λ a. n a.some (omega (arith, limit_is, a.within)) (omega (arith, product_is count, a.short)))

pub record Formed (r : List ℕ) : Type 0 where
  pub room : 5 ≤ length r
  pub allows : Allowed (kind_of r) (address_of r) (count_of r)
  pub whole : length r ≡ 5 + size_of (kind_of r) * count_of r

pub formed : (r : List ℕ) → well_formed r ≡ true → Formed r
unfolding well_formed
formed r e =
    let h = and_both _ _ e in
    let k = and_both _ _ h.1 in
    record { room = leb-true _ _ h.0; allows = allowed_facts _ _ _ k.0; whole = eqb-true _ _ k.1 }

pub is_formed : (r : List ℕ) → Formed r → well_formed r ≡ true
unfolding well_formed
is_formed r f = simp (le-leb _ _ f.room, is_allowed _ _ _ f.allows, eq-eqb _ _ f.whole)

-- a header that was found
module _ {r : List ℕ} {h : Header} (f : Found r h) where
  pub size_is : bytes_in h.form.size ≡ size_of (kind_of r)
  size_is = ap size_in f.form_is

  pub sign_is : h.form.signed ≡ signed_of (kind_of r)
  sign_is = ap signed_in f.form_is

  -- the elements stand behind the header
  pub found-whole : length r ≡ 5 + bytes_in h.form.size * h.count
  found-whole = rw (size_is, f.count_is) (formed r f.good).whole
