-- What the tests at the end of a frame say together.
use Prim.Native.Nat.{ℕ, ◌+◌, ◌-◌, ◌≤◌, ◌<◌}
use mathlib.Core.Path.{◌≡◌, refl, ap, sym, ◌∙◌}
use mathlib.Core.Bool.{Bool, true, false, cond, ◌&&◌, not}
use mathlib.Core.List.{List, [], ◌∷◌}
use native.Mathlib.Omega.{arith}
use lib.Dec.{eqb, ltb}
use lib.ListN.{length, get_or, take, drop, length-drop, length-take}
use borrow.Author.Tests.{ltb-false, lt-ltb, le-ltb, eqb-true, eq-eqb, not-false}
use Rattle.framing.specs.Tests.{first_of}
use Rattle.framing.proofs.Tests.{none_fires}
use Rattle.pcs.specs.Frame.{trailer, trailing}
use Rattle.pcs.specs.Rules.{size, plain_size, stated, has_crc, body_part, trailer_part, packed_part, too_short, too_long, same, trailer_right, fields_ok, length_right, tests, fault_of}
use Rattle.pcs.specs.Steps.{trailer_fault}
use Rattle.std.specs.Prelude.{nat_eq}
use Rattle.std.specs.List.{ends_with}
use mathlib.Core.Logic.{◌⊎◌, inl, inr}
use Rattle.checksum.specs.Sum.{sum_of}
use Rattle.checksum.specs.Crc.{crc16_of}
use Rattle.pcs.specs.Frame.{crc_bytes}
use Rattle.pcs.proofs.Trailer.{same_refl, same_true, trailing_range, sum_wrong, sum_right, crc_said}

-- of three tests with others behind them: the number of the first three where one of them fires, else that of the others
first_three : (a b c : Bool) (more : List (Bool × ℕ))
    → let first = first_of ((a, 6) ∷ (b, 5) ∷ (c, 8) ∷ []) in
    ((first ≡ 0 → ⊥) → first_of ((a, 6) ∷ (b, 5) ∷ (c, 8) ∷ more) ≡ first) × (first ≡ 0 → first_of ((a, 6) ∷ (b, 5) ∷ (c, 8) ∷ more) ≡ first_of more)
first_three true b c more = (λ _. refl, λ e. absurd (omega arith))
first_three false true c more = (λ _. refl, λ e. absurd (omega arith))
first_three false false true more = (λ _. refl, λ e. absurd (omega arith))
first_three false false false more = (λ n. absurd (n refl), λ _. refl)

-- gathered bytes of which no test before unpacking fires
pub record Passed (g : List ℕ) : Type 0 where
  pub long : 8 + trailing (has_crc g) ≤ length g
  pub plain : has_crc g ≡ false → length g ≤ plain_size
  pub checked : trailer_part g ≡ trailer (has_crc g) (body_part g)
  pub fields : fields_ok g ≡ true
  pub present : stated g ≡ length (packed_part g)

module _ (g : List ℕ) where
  pub passed : fault_of g ≡ 0 → Passed g
  unfolding fault_of
  passed h =
      let t = none_fires (tests g) refl h in
      let a = t.0 in
      let b = t.1.0 in
      let c = t.1.1.0 in
      let d = t.1.1.1.0 in
      let e = t.1.1.1.1.0 in
      record {
        long = ltb-false (length g) (8 + trailing (has_crc g)) cc;
        plain = λ f. ltb-false plain_size (length g) (sym (ap (λ (c : Bool). not c && ltb plain_size (length g)) f) ∙ b);
        checked = same_true (trailer_part g) (trailer (has_crc g) (body_part g)) (not-false (trailer_right g) cc);
        fields = not-false (fields_ok g) cc;
        present = eqb-true (stated g) (length (packed_part g)) (not-false (length_right g) cc);
      }

  pub no_fault : Passed g → fault_of g ≡ 0
  unfolding fault_of
  no_fault p =
      rw (
        le-ltb (length g) (8 + trailing (has_crc g)) p.long,
        within (has_crc g) refl,
        ap (same (trailer_part g)) (sym p.checked) ∙ same_refl (trailer_part g),
        p.fields,
        eq-eqb (stated g) (length (packed_part g)) p.present,
      )
    where
      within : (c : Bool) → has_crc g ≡ c → too_long g ≡ false
      within true e = rw e
      within false e = rw e (le-ltb plain_size (length g) (p.plain e))

  -- the packed bytes stand behind the header of 8 and before the trailer
  pub packed-length : length (packed_part g) ≡ length g - trailing (has_crc g) - 8
  packed-length = simp (length-drop, length-take) (omega arith)

  -- of a frame with either trailer they are 1,171 at most
  pub packed_most : Passed g → length g ≤ size → length (packed_part g) ≤ 1171
  packed_most p h = go (has_crc g) refl
    where
      go : (c : Bool) → has_crc g ≡ c → length (packed_part g) ≤ 1171
      go true e = omega (arith, packed-length, ap trailing e)
      go false e = omega (arith, packed-length, ap trailing e, p.plain e)

  pub nine : Passed g → 9 ≤ length g
  nine p = omega (arith, p.long, (trailing_range (has_crc g)).0)

  -- fewer than nine bytes have no room for either trailer
  pub below_nine : length g < 9 → fault_of g ≡ 6
  unfolding fault_of
  below_nine h = rw (lt-ltb (length g) (8 + trailing (has_crc g)) (omega (arith, (trailing_range (has_crc g)).0)))

  -- the tests behind the first three, by the count of packed bytes
  abbrev later : ℕ → List (Bool × ℕ)
  later n = (not (fields_ok g), 9) ∷ (not (eqb (stated g) n), 10) ∷ []

  -- the tests by what the code has in hand, the choice and the answer of the first three: that answer, where there is one ..
  pub checked : (crc : Bool) (s : ℕ) → crc ≡ has_crc g → s ≡ trailer_fault crc g → (s ≡ 0 → ⊥) → fault_of g ≡ s
  unfolding fault_of
  checked crc s k e n =
      let w : s ≡ trailer_fault (has_crc g) g = e ∙ ap (λ (c : Bool). trailer_fault c g) k in
      (first_three (too_short g) (too_long g) (not (trailer_right g)) (later (length (packed_part g)))).0 (λ z. n (w ∙ z)) ∙ sym w

  -- .. and else the tests behind them, with a trailer of t
  pub faults : (crc : Bool) (t : ℕ) → crc ≡ has_crc g → 0 ≡ trailer_fault crc g → t ≡ trailing crc → fault_of g ≡ first_of (later (length g - t - 8))
  unfolding fault_of
  faults crc t k e n =
      let w : 0 ≡ trailer_fault (has_crc g) g = e ∙ ap (λ (c : Bool). trailer_fault c g) k in
      let there : length (packed_part g) ≡ length g - t - 8 = packed-length ∙ ap (λ (x : ℕ). length g - x - 8) (ap trailing (sym k) ∙ sym n) in
      (first_three (too_short g) (too_long g) (not (trailer_right g)) (later (length (packed_part g)))).1 (sym w) ∙ (λ i. first_of (later (there i)))

-- the first tests by what the code has in hand: n bytes of a trailer t behind a body b
module _ (g : List ℕ) (crc : Bool) (n : ℕ) (b t : List ℕ) (k : n ≡ trailing crc) (enough : 8 + n ≤ length g)
    (few : ((crc ≡ false) × (length g ≤ plain_size)) ⊎ (crc ≡ true)) (front : b ≡ take (length g - n) g) (back : t ≡ drop (length g - n) g) where
  tested : (r : Bool) → same t (trailer crc b) ≡ r → ◌≡◌ {A = ℕ} (cond r 0 8) (trailer_fault crc g)
  tested r e =
      let right : same (drop (length g - trailing crc) g) (trailer crc (take (length g - trailing crc) g)) ≡ r =
      (λ i. same (drop (length g - sym k i) g) (trailer crc (take (length g - sym k i) g))) ∙ (λ i. same (sym back i) (trailer crc (sym front i))) ∙ e in
      sym (rw (le-ltb (length g) (8 + trailing crc) (omega arith), within few, right) (last r))
    where
      within : ((crc ≡ false) × (length g ≤ plain_size)) ⊎ (crc ≡ true) → not crc && ltb plain_size (length g) ≡ false
      within (inl (f, l)) = rw (f, le-ltb plain_size (length g) l)
      within (inr h) = rw h

      last : (r : Bool) → ◌≡◌ {A = ℕ} (cond (not r) 8 0) (cond r 0 8)
      last true = refl
      last false = refl

  counted : length t ≡ trailing crc
  counted = ap length back ∙ simp length-drop (omega arith)

  pub wrong_sum : (get_or t 0 0 ≡ sum_of b → ⊥) → 8 ≡ trailer_fault crc g
  wrong_sum h = tested false (sum_wrong t b crc h)

  pub by_crc : (r : Bool) → crc ≡ true → get_or t 0 0 ≡ sum_of b → r ≡ ends_with nat_eq t (crc_bytes (crc16_of b)) → ◌≡◌ {A = ℕ} (cond r 0 8) (trailer_fault crc g)
  by_crc r h e s = tested r (ap (λ (c : Bool). same t (trailer c b)) h ∙ crc_said t b r (counted ∙ ap trailing h) e s)

  pub plain_right : crc ≡ false → get_or t 0 0 ≡ sum_of b → 0 ≡ trailer_fault crc g
  plain_right h e = tested true (ap (λ (c : Bool). same t (trailer c b)) h ∙ sum_right t b (counted ∙ ap trailing h) e)
