-- The phases that a receiver reaches, and what their gathered bytes are.
use Rattle.std.proofs.Common.{◌≡◌, ℕ, suc, ◌+◌, ◌/◌, ◌%◌, ◌<◌, ◌≤◌, true, List, [], ◌∷◌, ◌++◌, length, get_or, take, sym, refl, ap, ◌∙◌, arith, take-append-drop, drop_of_length-le, drop-cons}
use Rattle.runs.specs.Runs.{Bytes}
use Rattle.framing.proofs.Byte.{Reached}
use Rattle.mdu.specs.Frame.{length_ok, header}
use Rattle.mdu.specs.Rules.{Phase, hunting, in_header, in_body, size, gathered, stated}
use Rattle.mdu.specs.Contract.{link}
use Rattle.mdu.proofs.Passed.{Passed}
use Rattle.mdu.proofs.Known.{Sized, length_most}

-- a header that was entered, and what follows it
pub record Entered (k : ℕ) (g : List ℕ) : Type 0 where
  pub address : ℕ
  pub rest : List ℕ
  pub whole : g ≡ header k address ++ rest
  pub low : 1 ≤ address
  pub allowed : length_ok k ≡ true
  pub bytes : Bytes rest
  pub short : length rest ≤ k + 1

abbrev pub Good : Phase → Type 0
Good hunting = Unit
Good (in_header g) = Bytes g × (1 ≤ length g) × (length g ≤ 5) × (get_or g 0 0 ≡ 0xE3)
Good (in_body k g) = Entered k g

pub good_sized : (p : Phase) → Good p → Sized p
good_sized hunting g = tt
good_sized (in_header x) g = (g.1, omega (arith, g.2))
good_sized (in_body k x) g =
    let e : length x ≡ 6 + length g.rest = ap length g.whole ∙ omega arith in
    record { allowed = g.allowed; low = omega arith; high = omega (arith, g.short); most = length_most k g.allowed }

-- fewer bytes than the store holds, with room for one more
pub good_small : (p : Phase) → Good p → length (gathered p) < size
good_small hunting g = omega arith
good_small (in_header x) g = omega (arith, g.2)
good_small (in_body k x) g = let s = good_sized (in_body k x) g in omega (arith, s.high, s.most)

abbrev pub reached : Reached link
reached =
    record {
      Good = Good;
      fits = λ p h. omega (arith, good_small p h);
      few = λ p h. omega (arith, good_small p h);
      good_first = tt;
      held_first = refl;
      gathered-first = refl;
    }

six : (g : List ℕ) → length g ≡ 6 → g ≡ get_or g 0 0 ∷ get_or g 1 0 ∷ get_or g 2 0 ∷ get_or g 3 0 ∷ get_or g 4 0 ∷ get_or g 5 0 ∷ []
six [] h = absurd (omega arith)
six (a ∷ []) h = absurd (omega arith)
six (a ∷ b ∷ []) h = absurd (omega arith)
six (a ∷ b ∷ c ∷ []) h = absurd (omega arith)
six (a ∷ b ∷ c ∷ d ∷ []) h = absurd (omega arith)
six (a ∷ b ∷ c ∷ d ∷ e ∷ []) h = absurd (omega arith)
six (a ∷ b ∷ c ∷ d ∷ e ∷ f ∷ []) h = refl
six (a ∷ b ∷ c ∷ d ∷ e ∷ f ∷ x ∷ g) h = absurd (omega arith)

-- the six bytes of a header that passes are the header of its length and address
pub entered : (g : List ℕ) → length g ≡ 6 → Bytes g → get_or g 0 0 ≡ 0xE3 → Passed g → Entered (stated g) g
entered g l y e p =
    record {
      address = get_or g 4 0;
      rest = [];
      whole = six g l ∙ rw (p.checked, e, p.version) same;
      low = omega (arith, p.address);
      allowed = p.allowed;
      bytes = λ i. omega arith;
      short = omega arith;
    }
  where
    same : 0xE3 ∷ 1 ∷ get_or g 2 0 ∷ get_or g 3 0 ∷ get_or g 4 0 ∷ (0xE3 + 1 + get_or g 2 0 + get_or g 3 0 + get_or g 4 0) % 256 ∷ []
        ≡ header (stated g) (get_or g 4 0) ++ []
    same =
        let h : stated g / 256 ≡ get_or g 2 0 = omega (arith, y 3) in
        let m : stated g % 256 ≡ get_or g 3 0 = omega (arith, y 3) in
        rw (h, m)

-- the last two of k + 2 bytes
pub two : (e : List ℕ) (k : ℕ) → length e ≡ k + 2 → e ≡ take k e ++ (get_or e k 0 ∷ get_or e (suc k) 0 ∷ [])
two e k l =
    sym (take-append-drop k e)
    ∙ ap (λ (x : List ℕ). take k e ++ x)
    (drop-cons e k 0 (omega arith)
    ∙ ap (λ (x : List ℕ). get_or e k 0 ∷ x)
    (drop-cons e (suc k) 0 (omega arith) ∙ ap (λ (x : List ℕ). get_or e (suc k) 0 ∷ x) (drop_of_length-le e {i = suc (suc k)} (omega arith))))
