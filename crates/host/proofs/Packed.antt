-- The parts of a message's number, as the header's accessors take them out again.
use Prim.Native.Nat.{ℕ, zero, suc, ◌/◌, ◌%◌, ◌^◌, ◌<◌}
use mathlib.Core.Path.{◌≡◌}
use mathlib.Core.Bool.{Bool, true, false, cond}
use mathlib.Core.List.{List, [], ◌∷◌}
use native.Mathlib.Omega.{arith}
use native.Mathlib.Nat.{zero-div, pow-zero, pow-succ', div-div-eq-div-mul}
use lib.ListN.{get_or}
use Rattle.runs.specs.Runs.{Bytes}
use Rattle.runs.specs.Number.{little_endian}
use Rattle.host.specs.Read.{packed, refusal_of, length_of, kind_of, crc_of, field_of}

-- the bit of the crc stands in nothing's way
pub bit : (crc : Bool) → cond crc 1 0 < 2
bit true = omega arith
bit false = omega arith

module _ (size kind : ℕ) (crc : Bool) (fields : List ℕ) where
  -- a message is no refusal
  pub packed_refusal : refusal_of (packed size kind crc fields) ≡ 0
  unfolding packed
  packed_refusal = omega arith

  pub packed-size : size < 2 ^ 12 → length_of (packed size kind crc fields) ≡ size
  unfolding packed
  packed-size h = omega arith

  pub packed_kind : kind < 2 ^ 2 → kind_of (packed size kind crc fields) ≡ kind
  unfolding packed
  packed_kind h = omega arith

  pub packed_crc : crc_of (packed size kind crc fields) ≡ cond crc 1 0
  unfolding packed
  packed_crc = omega (arith, bit crc)

  packed_fields : packed size kind crc fields / 2 ^ 24 ≡ little_endian fields
  unfolding packed
  packed_fields = omega (arith, bit crc)

other_fields : (b : ℕ) (bs : List ℕ) → b < 2 ^ 8 → little_endian (b ∷ bs) / 2 ^ 8 ≡ little_endian bs
unfolding little_endian
other_fields b bs h = omega arith

-- field number i, and 0 past the last
pub field_at : (fields : List ℕ) (i : ℕ) → Bytes fields → little_endian fields / 256 ^ i % 2 ^ 8 ≡ get_or fields i 0
unfolding little_endian
field_at [] i y = simp zero-div
field_at (b ∷ bs) zero y = rw pow-zero (let l = y 0 in omega arith)
field_at (b ∷ bs) (suc i) y =
    rw (pow-succ' 256 i, ← div-div-eq-div-mul, other_fields b bs (y 0)) (field_at bs i (λ k. y (suc k)))

pub packed_field : (size kind : ℕ) (crc : Bool) (fields : List ℕ) (i : ℕ) → Bytes fields → field_of i (packed size kind crc fields) ≡ get_or fields i 0
packed_field size kind crc fields i y = rw (packed_fields size kind crc fields) (field_at fields i y)
