-- The tables' rules, and bits that leave a register by them. A row is made by doubling: with a bit on top, each entry is xored with that bit's own.
-- A proof that cites `row_out` or `laid_out` with `refl` has each entry of the source's constant computed and compared.
use mathlib.Core.Path.{◌≡◌, refl, ap, ap₂, sym, ◌∙◌, subst}
use mathlib.Core.Bool.{Bool, true, false}
use mathlib.Core.List.{List, [], ◌∷◌, ◌++◌, map}
use Prim.Native.Nat.{ℕ, zero, suc, ◌+◌, ◌*◌, ◌-◌, ◌/◌, ◌%◌, ◌^◌, ◌<◌, ◌≤◌}
use native.Mathlib.Nat.{zero-mul, one-mul, suc-mul, add-mul, mul-suc, mul-zero, pow-zero, mod-lt, le_of_suc-le-suc, not-suc-le-zero}
use native.Mathlib.Omega.{arith}
use lib.Bits.{bit_xor, xor_zero_l, xor_zero_r, xor_shifted}
use lib.Dec.{ltb}
use lib.ListN.{length, get_or, take, drop, length-append, length-map, get_or-append}
use lib.Seq.{get_or-append-add}
use lib.Pow.{pow_pos}
use Rattle.std.proofs.Common.{get_or-drop, get_or-take, div-lt_iff_lt-mul}
use Rattle.std.proofs.lemmas.Nat.{mul-le, pow-add}
use borrow.Author.Tests.{ltb-true, ltb-false}
use Rattle.runs.proofs.Bytes.{map_at}
use Rattle.checksum.specs.Crc.{shifts}
use Rattle.checksum.specs.Tables.{Rows}
use Rattle.checksum.proofs.Xor.{xor_assoc}
use Rattle.checksum.proofs.Linear.{shifts_add, shifts-sum, shifts_split, shifts_none}

-- what the register of each single bit is once n bits have left it, the highest of w bits first
unfoldable pub bases : ℕ → ℕ → ℕ → List ℕ
bases p n zero = []
bases p n (suc w) = shifts p n (2 ^ w) ∷ bases p n w

-- a row of a table, of the bits' own entries
unfoldable pub row : List ℕ → List ℕ
row [] = 0 ∷ []
row (b ∷ bs) = row bs ++ map (bit_xor b) (row bs)

-- a table of k rows
unfoldable pub laid : ℕ → ℕ → ℕ → ℕ → List (List ℕ)
laid p w zero n = []
laid p w (suc k) n = row (bases p n w) ∷ laid p w k (n - w)

row-length : (p n w : ℕ) → length (row (bases p n w)) ≡ 2 ^ w
unfolding row bases
row-length p n zero = refl
row-length p n (suc w) =
    let l = row (bases p n w) in
    let e = row-length p n w in
    length-append l (map (bit_xor (shifts p n (2 ^ w))) l) ∙ ap₂ ◌+◌ e (length-map l (bit_xor (shifts p n (2 ^ w))) ∙ e) ∙ omega arith

-- one bit more on top of a row
row_next : (p n w : ℕ) (l : List ℕ) → length l ≡ 2 ^ w → ((z : ℕ) → z < 2 ^ w → get_or l z 0 ≡ shifts p n z)
    → (y : ℕ) → y < 2 ^ suc w → get_or (l ++ map (bit_xor (shifts p n (2 ^ w))) l) y 0 ≡ shifts p n y
row_next p n w l long at y h = by_top (ltb y (2 ^ w)) refl
  where
    b : ℕ
    b = shifts p n (2 ^ w)

    joined : (z : ℕ) → z < 2 ^ w → bit_xor (2 ^ w) z ≡ 2 ^ w + z
    joined z k = subst (λ (m : ℕ). bit_xor m z ≡ m + z) (one-mul (2 ^ w)) (xor_shifted 1 w z k)

    -- with the top bit: the entry of that bit, and of the bits below it
    above : (z : ℕ) → z < 2 ^ w → get_or (l ++ map (bit_xor b) l) (length l + z) 0 ≡ shifts p n (2 ^ w + z)
    above z k =
        get_or-append-add l (map (bit_xor b) l) z 0 ∙ map_at (bit_xor b) l z (rw long k) ∙ ap (bit_xor b) (at z k)
        ∙ sym (shifts-sum p n (2 ^ w) z) ∙ ap (shifts p n) (joined z k)

    by_top : (t : Bool) → ltb y (2 ^ w) ≡ t → get_or (l ++ map (bit_xor b) l) y 0 ≡ shifts p n y
    by_top true e =
        let k = ltb-true y (2 ^ w) e in
        get_or-append l (map (bit_xor b) l) 0 y (rw long k) ∙ at y k
    by_top false e =
        let k = ltb-false y (2 ^ w) e in
        let z = y - 2 ^ w in
        let top : 2 ^ w + z ≡ y = omega arith in
        let q : length l + z ≡ y = ap (λ (m : ℕ). m + z) long ∙ top in
        ap (λ (m : ℕ). get_or (l ++ map (bit_xor b) l) m 0) (sym q) ∙ above z (omega arith) ∙ ap (shifts p n) top

row_at : (p n w y : ℕ) → y < 2 ^ w → get_or (row (bases p n w)) y 0 ≡ shifts p n y
unfolding row bases
row_at p n zero y h =
    let none : y ≡ 0 = omega (arith, h) in
    rw none (sym (shifts_none p n))
row_at p n (suc w) y h = row_next p n w (row (bases p n w)) (row-length p n w) (λ z k. row_at p n w z k) y h

-- a table of one row
pub row_out : (p w n : ℕ) {t : List ℕ} → t ≡ row (bases p n w) → (y : ℕ) → y < 2 ^ w → get_or t y 0 ≡ shifts p n y
row_out p w n e y h = ap (λ (l : List ℕ). get_or l y 0) e ∙ row_at p n w y h

laid-rows : (p w k n : ℕ) → Rows p w k n (laid p w k n)
unfolding laid Rows
laid-rows p w zero n r y h i = absurd (not-suc-le-zero h)
laid-rows p w (suc k) n zero y h i =
    let all : n - zero * w ≡ n = simp zero-mul (omega arith) in
    rw all (row_at p n w y i)
laid-rows p w (suc k) n (suc r) y h i =
    let fewer : n - suc r * w ≡ n - w - r * w = simp suc-mul (omega arith) in
    rw fewer (laid-rows p w k (n - w) r y (le_of_suc-le-suc h) i)

-- some rows of a table, from row m on, are the rows of fewer bits
pub rows_part : (p w k n m : ℕ) (t : List (List ℕ)) → Rows p w (m + k) n t → Rows p w k (n - m * w) (take k (drop m t))
unfolding Rows
rows_part p w k n m t rule r y h i =
    let fewer : n - m * w - r * w ≡ n - (m + r) * w = rw (add-mul m r w) (omega arith) in
    rw (get_or-take k (drop m t) r [] h, get_or-drop m t r [], fewer) (rule (m + r) y (omega arith) i)

pub laid_out : (p w k n : ℕ) {t : List (List ℕ)} → t ≡ laid p w k n → Rows p w k n t
laid_out p w k n e = subst (Rows p w k n) (sym e) (laid-rows p w k n)

-- of w + j bits that leave, what the lowest w give and what those above them give
pub low_bits : (p w j x : ℕ) {a b : ℕ} → a ≡ shifts p (w + j) (x % 2 ^ w) → b ≡ shifts p j (x / 2 ^ w) → bit_xor a b ≡ shifts p (w + j) x
low_bits p w j x e f =
    ap₂ bit_xor (e ∙ shifts_add p w j (x % 2 ^ w)) f ∙ sym (shifts-sum p j (shifts p w (x % 2 ^ w)) (x / 2 ^ w)) ∙ ap (shifts p j) (shifts_split p w x)
    ∙ sym (shifts_add p w j x)

-- of n bits that leave, those of the first i rows have given all, and rest is what stands above them
abbrev pub RowsDone : (p w n c i all rest : ℕ) → Type 0
RowsDone p w n c i all rest = bit_xor all (shifts p (n - i * w) rest) ≡ shifts p n c

pub row_start : (p w n c : ℕ) → RowsDone p w n c 0 0 c
row_start p w n c = let all : n - 0 * w ≡ n = simp zero-mul (omega arith) in rw all (xor_zero_l (shifts p n c))

pub row_step : (p w n c i all rest : ℕ) {entry : ℕ} → RowsDone p w n c i all rest → (i + 1) * w ≤ n → entry ≡ shifts p (n - i * w) (rest % 2 ^ w)
    → RowsDone p w n c (i + 1) (bit_xor all entry) (rest / 2 ^ w)
row_step p w n c i all rest {entry} done h e =
    let j = n - (i + 1) * w in
    let next : (i + 1) * w ≡ i * w + w = add-mul i 1 w ∙ ap (λ (m : ℕ). i * w + m) (one-mul w) in
    let more : n - i * w ≡ w + j = omega arith in
    let both : bit_xor entry (shifts p j (rest / 2 ^ w)) ≡ shifts p (w + j) rest = low_bits p w j rest (e ∙ ap (λ (m : ℕ). shifts p m (rest % 2 ^ w)) more) refl in
    xor_assoc all entry (shifts p j (rest / 2 ^ w)) ∙ ap (bit_xor all) (both ∙ ap (λ (m : ℕ). shifts p m rest) (sym more)) ∙ done

rest_lt : (w k i rest : ℕ) → i < k → rest < 2 ^ (w * (k - i)) → rest / 2 ^ w < 2 ^ (w * (k - (i + 1)))
rest_lt w k i rest h l =
    let left : k - i ≡ suc (k - (i + 1)) = omega arith in
    let more : w * suc (k - (i + 1)) ≡ w * (k - (i + 1)) + w = mul-suc w (k - (i + 1)) in
    (div-lt_iff_lt-mul (pow_pos w)).1 (rw (left, more, pow-add) at l)

-- a row more
pub row_turn : (p w n c i all rest : ℕ) (t : List (List ℕ)) → length t * w ≤ n → Rows p w (length t) n t → i < length t
    → (rest < 2 ^ (w * (length t - i))) × RowsDone p w n c i all rest
    → (rest / 2 ^ w < 2 ^ (w * (length t - (i + 1)))) × RowsDone p w n c (i + 1) (bit_xor all (get_or (get_or t i []) (rest % 2 ^ w) 0)) (rest / 2 ^ w)
unfolding Rows
row_turn p w n c i all rest t room rule h (l, done) = (
  rest_lt w (length t) i rest h l,
  row_step p w n c i all rest done (omega (arith, mul-le (i + 1) w (length t) w (omega arith) (omega arith)))
      (rule i (rest % 2 ^ w) h (mod-lt rest (pow_pos w))),
)

-- no row is left
pub rows_end : (p w n c k i all rest : ℕ) → k ≤ i → (rest < 2 ^ (w * (k - i))) × RowsDone p w n c i all rest → all ≡ shifts p n c
rows_end p w n c k i all rest h (l, done) =
    let left : k - i ≡ 0 = omega arith in
    let none : rest < 1 = rw (left, mul-zero, pow-zero) at l in
    let zero : rest ≡ 0 = omega arith in
    sym (ap (bit_xor all) (ap (shifts p (n - i * w)) zero ∙ shifts_none p (n - i * w)) ∙ xor_zero_r all) ∙ done
