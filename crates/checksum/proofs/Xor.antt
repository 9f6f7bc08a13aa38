-- Laws of `bit_xor` that lib.Bits lacks: one digit at a time with the parity as a remainder, associativity, cancellation.
use mathlib.Core.Path.{◌≡◌, refl, sym, ap, ap₂, ◌∙◌}
use Prim.Native.Nat.{ℕ, zero, suc, ◌+◌, ◌*◌, ◌/◌, ◌%◌, ◌<◌}
use native.Mathlib.Nat.{add_assoc}
use native.Mathlib.Omega.{arith}
use lib.Arith.{bin_ind}
use lib.Bits.{bit_xor, differ, xor_step, xor_zero_r, xor_self, xor_comm}

-- two digits differ where their sum is odd
differ_odd : (x y : ℕ) → x < 2 → y < 2 → differ x y ≡ (x + y) % 2
differ_odd zero y hx hy = omega arith
differ_odd (suc zero) zero hx hy = refl
differ_odd (suc zero) (suc y) hx hy = omega arith
differ_odd (suc (suc x)) y hx hy = absurd (omega arith)

xor_digit : (a b : ℕ) → bit_xor a b ≡ bit_xor (a / 2) (b / 2) * 2 + (a + b) % 2
xor_digit a b = omega (arith, xor_step a b, differ_odd (a % 2) (b % 2) (omega arith) (omega arith))

pub xor_half : (a b : ℕ) → bit_xor a b / 2 ≡ bit_xor (a / 2) (b / 2)
xor_half a b = omega (arith, xor_digit a b)

pub xor_odd : (a b : ℕ) → bit_xor a b % 2 ≡ (a + b) % 2
xor_odd a b = omega (arith, xor_digit a b)

odd_left : (x y z : ℕ) → x % 2 ≡ y % 2 → (x + z) % 2 ≡ (y + z) % 2
odd_left x y z e = omega arith

odd_right : (x y z : ℕ) → x % 2 ≡ y % 2 → (z + y) % 2 ≡ (z + x) % 2
odd_right x y z e = omega arith

pub xor_assoc : (a b c : ℕ) → bit_xor (bit_xor a b) c ≡ bit_xor a (bit_xor b c)
xor_assoc =
    bin_ind (λ (a : ℕ). (b c : ℕ) → bit_xor (bit_xor a b) c ≡ bit_xor a (bit_xor b c)) (λ b c. refl)
    (λ a ih b c.
    xor_digit (bit_xor a b) c
    ∙ ap₂ (λ (x y : ℕ). x * 2 + y)
    (ap (λ (x : ℕ). bit_xor x (c / 2)) (xor_half a b) ∙ ih (b / 2) (c / 2)
    ∙ ap (bit_xor (a / 2)) (sym (xor_half b c)))
    (odd_left (bit_xor a b) (a + b) c (xor_odd a b) ∙ ap (λ (x : ℕ). x % 2) (add_assoc a b c)
    ∙ odd_right (bit_xor b c) (b + c) a (xor_odd b c))
    ∙ sym (xor_digit a (bit_xor b c)))

pub xor_undo : (a q : ℕ) → bit_xor (bit_xor a q) q ≡ a
xor_undo a q = xor_assoc a q q ∙ ap (bit_xor a) (xor_self q) ∙ xor_zero_r a

pub xor_cancel : (q : ℕ) {a b : ℕ} → bit_xor a q ≡ bit_xor b q → a ≡ b
xor_cancel q {a} {b} e = sym (xor_undo a q) ∙ ap (λ (x : ℕ). bit_xor x q) e ∙ xor_undo b q

pub xor_cancel_left : (q : ℕ) {a b : ℕ} → bit_xor q a ≡ bit_xor q b → a ≡ b
xor_cancel_left q {a} {b} e = xor_cancel q (xor_comm a q ∙ e ∙ xor_comm q b)
