-- Both signednesses are sound: within a size, fares and numbers stand for each other.
use Prim.Native.Nat.{ℕ, suc, ◌-◌, ◌/◌, ◌^◌, ◌≤◌, ◌<◌}
use mathlib.Core.Path.{◌≡◌, refl}
use mathlib.Core.Bool.{Bool, true, false, false≢true}
use native.Mathlib.Omega.{arith}
use lib.Dec.{ltb}
use lib.IntN.{ℤ, pos, negsuc}
use lib.Signed.{mag}
use borrow.Author.Tests.{lt-ltb, le-ltb, ltb-true, ltb-false}
use Rattle.std.specs.Prelude.{Option, Some, None}
use Rattle.record.specs.declared.form.Form.{Form}
use Rattle.record.specs.Form.{form_of, size_in, signed_in, size_of, signed_of}
use Rattle.record.specs.Fares.{Signedness, unsigned_fares, signed_fares, same, signed_fare, signed_number}
use Rattle.record.proofs.Numbers.{fits}
use Rattle.record.proofs.Complement.{Halves, halves}

pub record Lawful {A : Type 0} (F : Signedness A) (size : ℕ) : Type 0 where
  pub below : (a : A) → F.holds size a ≡ true → fits size (F.number_of size a) ≡ true
  pub back : (a : A) → F.holds size a ≡ true → F.fare_of size (F.number_of size a) ≡ a
  pub held : (n : ℕ) → fits size n ≡ true → F.holds size (F.fare_of size n) ≡ true
  pub forth : (n : ℕ) → fits size n ≡ true → F.number_of size (F.fare_of size n) ≡ n

-- lawful at the size of every type of its signedness
abbrev pub Sound : {A : Type 0} → Signedness A → Type 0
Sound F = (kind : ℕ) → same F.signed (signed_of kind) ≡ true → Lawful F (size_of kind)

pub unsigned_sound : Sound unsigned_fares
unsigned_sound kind e = record { below = λ a h. h; back = λ a h. refl; held = λ n h. h; forth = λ n h. refl }

module _ (size : ℕ) (h : Halves size) where
  signed_below : (z : ℤ) → ltb (mag z) (256 ^ size / 2) ≡ true → fits size (signed_number size z) ≡ true
  signed_below (pos n) e = let l : n < 256 ^ size / 2 = ltb-true _ _ e in lt-ltb n (256 ^ size) (omega arith)
  signed_below (negsuc n) e = lt-ltb (256 ^ size - suc n) (256 ^ size) (omega arith)

  signed_back : (z : ℤ) → ltb (mag z) (256 ^ size / 2) ≡ true → signed_fare size (signed_number size z) ≡ z
  signed_back (pos n) e = rw e
  signed_back (negsuc n) e =
      let l : n < 256 ^ size / 2 = ltb-true _ _ e in
      let q : 256 ^ size - suc (256 ^ size - suc n) ≡ n = omega arith in
      rw (le-ltb (256 ^ size - suc n) (256 ^ size / 2) (omega arith), q)

  -- by the half that a number lies in
  signed_held : (n : ℕ) (t : Bool) → ltb n (256 ^ size / 2) ≡ t → fits size n ≡ true → ltb (mag (signed_fare size n)) (256 ^ size / 2) ≡ true
  signed_held n true e f = rw (e, e)
  signed_held n false e f =
      let l : 256 ^ size / 2 ≤ n = ltb-false _ _ e in
      let m : n < 256 ^ size = ltb-true _ _ f in
      rw e (lt-ltb (256 ^ size - suc n) (256 ^ size / 2) (omega arith))

  signed_forth : (n : ℕ) (t : Bool) → ltb n (256 ^ size / 2) ≡ t → fits size n ≡ true → signed_number size (signed_fare size n) ≡ n
  signed_forth n true e f = rw e
  signed_forth n false e f = let m : n < 256 ^ size = ltb-true _ _ f in rw e (omega arith)

signed_halves : (f : Option Form) → signed_in f ≡ true → Halves (size_in f)
signed_halves (Some f) e = halves f.size
signed_halves None e = absurd (false≢true e)

pub signed_sound : Sound signed_fares
signed_sound kind e =
    let h : Halves (size_of kind) = signed_halves (form_of kind) e in
    record {
      below = signed_below (size_of kind) h;
      back = signed_back (size_of kind) h;
      held = λ n f. signed_held (size_of kind) h n _ refl f;
      forth = λ n f. signed_forth (size_of kind) h n _ refl f;
    }
