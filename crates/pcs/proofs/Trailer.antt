-- Body and trailer of gathered bytes: the info and the length say how they part.
use Prim.Native.Nat.{ℕ, ◌+◌, ◌-◌, ◌%◌, ◌≤◌}
use mathlib.Core.Path.{◌≡◌, refl, ap, ap₂, sym, ◌∙◌}
use Rattle.std.specs.Prelude.{nat_eq}
use Rattle.std.specs.List.{ends_with}
use Rattle.std.specs.Cmp.Lexicographic.{same_text, other_text}
use mathlib.Core.Bool.{Bool, true, false, ◌&&◌, ◌||◌, false≢true}
use mathlib.Core.List.{List, [], ◌∷◌, ◌++◌}
use native.Mathlib.Omega.{arith}
use lib.Dec.{eqb, leb}
use lib.ListN.{length, drop, get_or, length-append, take-append-drop, drop_of_length-le}
use lib.Seq.{take_at, drop_at, drop-cons}
use borrow.Author.Tests.{eqb-true, eq-eqb, leb-true, le-leb, lt-leb}
use Rattle.runs.proofs.Cases.{and_both}
use Rattle.checksum.specs.Sum.{sum_of}
use Rattle.checksum.specs.Crc.{crc16_of}
use Rattle.pcs.specs.Frame.{info_base, crc_bytes, trailer, trailing}
use Rattle.pcs.specs.Rules.{crc_info, info_ok, has_crc, body_part, trailer_part, same}

pub same_refl : (xs : List ℕ) → same xs xs ≡ true
unfolding same
same_refl [] = refl
same_refl (x ∷ xs) = rw (eq-eqb x x refl) (same_refl xs)

pub same_true : (xs ys : List ℕ) → same xs ys ≡ true → xs ≡ ys
unfolding same
same_true [] [] h = refl
same_true [] (y ∷ ys) h = absurd (false≢true h)
same_true (x ∷ xs) [] h = absurd (false≢true h)
same_true (x ∷ xs) (y ∷ ys) h =
    let a = and_both (eqb x y) (same xs ys) h in
    ap₂ ◌∷◌ (eqb-true x y a.0) (same_true xs ys a.1)

same_false : (xs ys : List ℕ) → (xs ≡ ys → ⊥) → same xs ys ≡ false
same_false xs ys n = go (same xs ys) refl
  where
    go : (r : Bool) → same xs ys ≡ r → same xs ys ≡ false
    go true e = absurd (n (same_true xs ys e))
    go false e = e

-- what is compared of the bytes t behind a body b says whether they are its trailer: the first of them, and with a CRC the last three
module _ (t b : List ℕ) where
  pub sum_wrong : (crc : Bool) → (get_or t 0 0 ≡ sum_of b → ⊥) → same t (trailer crc b) ≡ false
  sum_wrong crc n = same_false t (trailer crc b) (λ e. n (ap (λ (l : List ℕ). get_or l 0 0) e))

  pub sum_right : length t ≡ 1 → get_or t 0 0 ≡ sum_of b → same t (trailer false b) ≡ true
  sum_right l e =
      let one : t ≡ trailer false b = drop-cons t 0 0 (omega arith) ∙ (λ i. e i ∷ drop_of_length-le t {i = 1} (omega arith) i) in
      ap (λ (x : List ℕ). same x (trailer false b)) one ∙ same_refl (trailer false b)

  pub crc_said : (r : Bool) → length t ≡ 4 → get_or t 0 0 ≡ sum_of b → r ≡ ends_with nat_eq t (crc_bytes (crc16_of b)) → same t (trailer true b) ≡ r
  crc_said true l e s =
      let one : length t - 3 ≡ 1 = omega arith in
      let four : t ≡ trailer true b =
      drop-cons t 0 0 (omega arith)
      ∙ (λ i. e i ∷ (ap (λ (k : ℕ). drop k t) (sym one) ∙ sym (same_text (crc_bytes (crc16_of b)) (drop (length t - 3) t) s)) i) in
      ap (λ (x : List ℕ). same x (trailer true b)) four ∙ same_refl (trailer true b)
  crc_said false l e s =
      same_false t (trailer true b)
      (λ h. other_text (crc_bytes (crc16_of b)) (drop (length t - 3) t) s (sym (ap (λ (x : List ℕ). drop (length x - 3) x) h)))

-- ---- what the info says

-- the choice and the kind come back from the info
pub crc_back : (crc : Bool) (k : ℕ) → k ≤ 3 → crc_info (info_base crc + k) ≡ crc
crc_back true k h = rw (le-leb 12 (12 + k) (omega arith), le-leb (12 + k) 15 (omega arith))
crc_back false k h = rw (lt-leb 12 (4 + k) (omega arith))

pub kind_back : (crc : Bool) (k : ℕ) → k ≤ 3 → (info_base crc + k) % 4 ≡ k
kind_back true k h = omega arith
kind_back false k h = omega arith

pub info_allowed : (crc : Bool) (k : ℕ) → k ≤ 3 → info_ok (info_base crc + k) ≡ true
info_allowed true k h = rw (le-leb 4 (12 + k) (omega arith), lt-leb (12 + k) 7 (omega arith), le-leb 12 (12 + k) (omega arith), le-leb (12 + k) 15 (omega arith))
info_allowed false k h = rw (le-leb 4 (4 + k) (omega arith), le-leb (4 + k) 7 (omega arith))

-- and the info from them
pub info_back : (i : ℕ) → info_ok i ≡ true → info_base (crc_info i) + i % 4 ≡ i
info_back i h = go (leb 4 i && leb i 7) refl (crc_info i) refl h
  where
    go : (p : Bool) → (leb 4 i && leb i 7) ≡ p → (c : Bool) → crc_info i ≡ c → p || c ≡ true → info_base c + i % 4 ≡ i
    go p q true e _ = let l = and_both (leb 12 i) (leb i 15) e in omega (arith, leb-true 12 i l.0, leb-true i 15 l.1)
    go true q false e _ = let l = and_both (leb 4 i) (leb i 7) q in omega (arith, leb-true 4 i l.0, leb-true i 7 l.1)
    go false q false e h = absurd (false≢true h)

-- ---- body and trailer

pub length-trailer : (crc : Bool) (b : List ℕ) → length (trailer crc b) ≡ trailing crc
length-trailer true b = refl
length-trailer false b = refl

pub trailing_range : (crc : Bool) → (1 ≤ trailing crc) × (trailing crc ≤ 4)
trailing_range true = (omega arith, omega arith)
trailing_range false = (omega arith, omega arith)

-- gathered bytes are a body and a trailer
pub whole : (g : List ℕ) → body_part g ++ trailer_part g ≡ g
whole g = take-append-drop (length g - trailing (has_crc g)) g

-- a body and a trailer of the length that the info says are parted as they were joined
module _ (b t : List ℕ) (n : length t ≡ trailing (has_crc (b ++ t))) where
  place : length b ≡ length (b ++ t) - trailing (has_crc (b ++ t))
  place = omega (arith, length-append b t)

  pub body_of : body_part (b ++ t) ≡ b
  body_of = take_at b t (length (b ++ t) - trailing (has_crc (b ++ t))) place

  pub trailer_of : trailer_part (b ++ t) ≡ t
  trailer_of = drop_at b t (length (b ++ t) - trailing (has_crc (b ++ t))) place
