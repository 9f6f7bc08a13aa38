-- The register is linear: the xor of two registers gives the xor of what they become. So j bits may leave at once.
use mathlib.Core.Path.{◌≡◌, refl, sym, ap, ap₂, ◌∙◌}
use Prim.Native.Nat.{ℕ, zero, suc, ◌+◌, ◌*◌, ◌/◌, ◌%◌, ◌^◌, ◌<◌}
use native.Mathlib.Nat.{add-mod, mod-lt, zero-add, suc-add, zero-mul, one-mul, mul-one}
use native.Mathlib.Omega.{arith}
use lib.Bits.{bit_xor, xor_zero_r, xor_comm, xor_self, xor_shifted, shifted_half, shifted_even}
use lib.Pow.{pow_pos, split}
use Rattle.checksum.specs.Crc.{shift, shifts}
use Rattle.checksum.proofs.Xor.{xor_half, xor_odd, xor_assoc}

-- of four, the middle two change places
pub xor_swap : (a b c d : ℕ) → bit_xor (bit_xor a b) (bit_xor c d) ≡ bit_xor (bit_xor a c) (bit_xor b d)
xor_swap a b c d =
    xor_assoc a b (bit_xor c d)
    ∙ ap (bit_xor a) (sym (xor_assoc b c d) ∙ ap (λ (x : ℕ). bit_xor x d) (xor_comm b c) ∙ xor_assoc c b d)
    ∙ sym (xor_assoc a c (bit_xor b d))

-- the constant times the sum of two bits, modulo 2
bit_times : (p r s : ℕ) → r < 2 → s < 2 → (r + s) % 2 * p ≡ bit_xor (r * p) (s * p)
bit_times p zero s hr hs =
    let bit : (0 + s) % 2 ≡ s = omega arith in
    simp (bit, zero-mul)
bit_times p (suc zero) zero hr hs = simp (zero-mul, one-mul, xor_zero_r)
bit_times p (suc zero) (suc s) hr hs =
    let one : suc s ≡ 1 = omega arith in
    rw one (simp (zero-mul, one-mul, xor_self))
bit_times p (suc (suc r)) s hr hs = absurd (omega arith)

shift-sum : (p a b : ℕ) → shift p (bit_xor a b) ≡ bit_xor (shift p a) (shift p b)
shift-sum p a b =
    let odd : bit_xor a b % 2 ≡ (a % 2 + b % 2) % 2 = xor_odd a b ∙ add-mod a b 2 in
    ap₂ bit_xor (xor_half a b) (ap (λ (r : ℕ). r * p) odd ∙ bit_times p (a % 2) (b % 2) (mod-lt a (pow_pos 1)) (mod-lt b (pow_pos 1)))
    ∙ xor_swap (a / 2) (b / 2) (a % 2 * p) (b % 2 * p)

pub shifts-sum : (p j a b : ℕ) → shifts p j (bit_xor a b) ≡ bit_xor (shifts p j a) (shifts p j b)
unfolding shifts
shifts-sum p zero a b = refl
shifts-sum p (suc j) a b = ap (shifts p j) (shift-sum p a b) ∙ shifts-sum p j (shift p a) (shift p b)

-- i bits leave, then j
pub shifts_add : (p i j a : ℕ) → shifts p (i + j) a ≡ shifts p j (shifts p i a)
unfolding shifts
shifts_add p zero j a = rw zero-add
shifts_add p (suc i) j a = rw suc-add (shifts_add p i j (shift p a))

-- j zero bits leave, and bring nothing in
pub shifts-zeros : (p j a : ℕ) → shifts p j (a * 2 ^ j) ≡ a
unfolding shifts
shifts-zeros p zero a = mul-one a
shifts-zeros p (suc j) a = ap (shifts p j) down ∙ shifts-zeros p j a
  where
    down : shift p (a * 2 ^ suc j) ≡ a * 2 ^ j
    down = simp (shifted_half, shifted_even, zero-mul, xor_zero_r)

-- a register of no bits stays one
pub shifts_none : (p j : ℕ) → shifts p j 0 ≡ 0
shifts_none p j = ap (shifts p j) (sym (zero-mul (2 ^ j))) ∙ shifts-zeros p j 0

-- j bits leave at once: what the j lowest bits give, xored into the bits above them
pub shifts_split : (p j x : ℕ) → bit_xor (shifts p j (x % 2 ^ j)) (x / 2 ^ j) ≡ shifts p j x
shifts_split p j x =
    xor_comm (shifts p j (x % 2 ^ j)) (x / 2 ^ j)
    ∙ ap (λ (y : ℕ). bit_xor y (shifts p j (x % 2 ^ j))) (sym (shifts-zeros p j (x / 2 ^ j)))
    ∙ sym (shifts-sum p j (x / 2 ^ j * 2 ^ j) (x % 2 ^ j))
    ∙ ap (shifts p j) (xor_shifted (x / 2 ^ j) j (x % 2 ^ j) (mod-lt x (pow_pos j)) ∙ split x j)
