-- What the bits left after some shifts tell of the register before. Registers agree from place k up when x / 2 ^ k are equal.
use mathlib.Core.Path.{◌≡◌, sym, ap, ap₂, ◌∙◌}
use Prim.Native.Nat.{ℕ, zero, suc, ◌+◌, ◌-◌, ◌*◌, ◌/◌, ◌%◌, ◌^◌, ◌≤◌, ◌<◌}
use native.Mathlib.Nat.{div-eq_of_lt, div-eq_of_lt-le, mul-le-mul_right, one-mul, zero-mul, add-suc, mod-one, add-zero}
use native.Mathlib.Numerals.{one-add, add-one}
use native.Mathlib.Omega.{arith}
use lib.Bits.{bit_xor, xor_shr, xor_mod, xor_lt}
use lib.Pow.{pow_pos, shr-shr, mod-pow-add}
use Rattle.checksum.specs.Crc.{shift, shifts}
use Rattle.checksum.proofs.Xor.{xor_cancel}

shr_one : (x k : ℕ) → x / 2 / 2 ^ k ≡ x / 2 ^ suc k
shr_one x k = shr-shr x 1 k ∙ ap (λ (j : ℕ). x / 2 ^ j) (one-add k)

-- the place h of the bit r times p is r, where p has its top bit at place h
top_bit : (h p r : ℕ) → 2 ^ h ≤ p → p < 2 ^ suc h → r < 2 → r * p / 2 ^ h ≡ r
top_bit h p zero low fits hr = rw zero-mul (div-eq_of_lt (pow_pos h))
top_bit h p (suc zero) low fits hr = rw one-mul (div-eq_of_lt-le (2 ^ h) (omega arith) (omega arith))
top_bit h p (suc (suc r)) low fits hr = absurd (omega arith)

-- a register of h + 1 bits whose constant p has its top bit set
module _ (h p : ℕ) (low : 2 ^ h ≤ p) (fits : p < 2 ^ suc h) where
  pub shift_lt : {x : ℕ} → x < 2 ^ suc h → shift p x < 2 ^ suc h
  shift_lt {x} hx =
      let bit : x % 2 ≤ 1 = omega arith in
      xor_lt (suc h) (x / 2) (x % 2 * p) (omega arith) (omega (arith, mul-le-mul_right p bit))

  -- the bit that left stands at the top
  shift_top : {x : ℕ} → x < 2 ^ suc h → shift p x / 2 ^ h ≡ x % 2
  shift_top {x} hx =
      let half : x / 2 < 2 ^ h = omega arith in
      xor_shr (x / 2) (x % 2 * p) h
      ∙ ap₂ bit_xor (div-eq_of_lt half) (top_bit h p (x % 2) low fits (omega arith))

  -- two registers that agree from place k up after a shift had the same lowest bit ..
  shift_bit : (k : ℕ) {x y : ℕ} → k ≤ h → x < 2 ^ suc h → y < 2 ^ suc h
      → shift p x / 2 ^ k ≡ shift p y / 2 ^ k → x % 2 ≡ y % 2
  shift_bit k {x} {y} hk hx hy e =
      sym (shift_top hx) ∙ sym (rest (shift p x)) ∙ ap (λ (z : ℕ). z / 2 ^ (h - k)) e ∙ rest (shift p y) ∙ shift_top hy
    where
      rest : (z : ℕ) → z / 2 ^ k / 2 ^ (h - k) ≡ z / 2 ^ h
      rest z = shr-shr z k (h - k) ∙ ap (λ (j : ℕ). z / 2 ^ j) (omega arith)

  -- .. and then whatever part f of their upper bits is the same after the shift was the same before it
  shift-part : (f : ℕ → ℕ) → ((a b : ℕ) → f (bit_xor a b) ≡ bit_xor (f a) (f b))
      → (x y : ℕ) → x % 2 ≡ y % 2 → f (shift p x) ≡ f (shift p y) → f (x / 2) ≡ f (y / 2)
  shift-part f law x y b e =
      xor_cancel (f (x % 2 * p))
      (sym (law (x / 2) (x % 2 * p)) ∙ e ∙ law (y / 2) (y % 2 * p)
      ∙ ap (λ (r : ℕ). bit_xor (f (y / 2)) (f (r * p))) (sym b))

  -- two registers that agree from place k up after j shifts had the same j lowest bits, and agreed from place k + j up
  pub shifts_back : (j k x y : ℕ) → k + j ≤ suc h → x < 2 ^ suc h → y < 2 ^ suc h
      → shifts p j x / 2 ^ k ≡ shifts p j y / 2 ^ k
      → (x % 2 ^ j ≡ y % 2 ^ j) × (x / 2 ^ (k + j) ≡ y / 2 ^ (k + j))
  unfolding shifts
  shifts_back zero k x y hk hx hy e = (mod-one x ∙ sym (mod-one y), rw add-zero e)
  shifts_back (suc j) k x y hk hx hy e =
      let ih : (shift p x % 2 ^ j ≡ shift p y % 2 ^ j) × (shift p x / 2 ^ (k + j) ≡ shift p y / 2 ^ (k + j)) =
      shifts_back j k (shift p x) (shift p y) (omega arith) (shift_lt hx) (shift_lt hy) e in
      let bit : x % 2 ≡ y % 2 = shift_bit (k + j) (omega arith) hx hy ih.1 in (
        digits x ∙ ap₂ (λ (q r : ℕ). q * 2 + r) (shift-part (λ z. z % 2 ^ j) (λ a b. xor_mod a b j) x y bit ih.0) bit
            ∙ sym (digits y),
        rw add-suc
            (sym (shr_one x (k + j)) ∙ shift-part (λ z. z / 2 ^ (k + j)) (λ a b. xor_shr a b (k + j)) x y bit ih.1
            ∙ shr_one y (k + j)),
      )
    where
      digits : (z : ℕ) → z % 2 ^ suc j ≡ z / 2 % 2 ^ j * 2 + z % 2
      digits z = ap (λ (i : ℕ). z % 2 ^ i) (sym (add-one j)) ∙ mod-pow-add z j 1

  pub shifts_lt : (j : ℕ) {x : ℕ} → x < 2 ^ suc h → shifts p j x < 2 ^ suc h
  unfolding shifts
  shifts_lt zero hx = hx
  shifts_lt (suc j) hx = shifts_lt j (shift_lt hx)
