-- What is claimed of packing beyond the contracts of the functions: where each bit of the data stands, and when unpacking gives 13.
-- proofs/Places.antt and proofs/Refused.antt prove it.
use Rattle.std.specs.Prelude.{◌≡◌, ℕ, suc, ◌+◌, ◌-◌, ◌*◌, ◌/◌, ◌%◌, ◌^◌, ◌<◌, min, Bool, true, not, ◌||◌, ◌↔◌, List, length, take, drop}
use Rattle.std.specs.Prelude.{◌==◌, slice_index, slice_index_or}
use Rattle.runs.specs.Runs.{Bytes}
use Rattle.framing.specs.Answer.{refused}
use Rattle.packing.specs.Seven.{sent, value_of}
use Rattle.packing.specs.Packed.{packed}
use Rattle.packing.specs.Unpacked.{all_sent}
use Rattle.packing.specs.Contract.{unpacked_in}

-- the top bits that go out with data byte i of d: in the eighth byte of its group or, in a short last group, in the last byte of all
abbrev pub tops_with : List ℕ → ℕ → ℕ
tops_with d i = value_of (slice_index (packed d) (min (8 * (i / 7) + 7) (length (packed d) - 1)))

-- where data byte i of d stands
pub record Placed (d : List ℕ) (i : ℕ) : Type 0 where
  -- its low seven bits, further on by a byte for each group before it
  pub low : slice_index_or (packed d) (i + i / 7) 0 ≡ sent (slice_index d i % 128)
  -- its top bit: that of byte j of a group, however short, at place 6 - j
  pub top : tops_with d i / 2 ^ (6 - i % 7) % 2 ≡ slice_index d i / 128
  -- all places below that of the last data byte are 0
  pub below : suc i ≡ length d → tops_with d i % 2 ^ (6 - i % 7) ≡ 0

abbrev pub BitsPlaced : Type 0
BitsPlaced = (d : List ℕ) → Bytes d → (i : ℕ) → i < length d → Placed d i

-- in the top bits of the last group of p, of k data bytes, one of the low 7 - k places is set
abbrev pub low_place_set : List ℕ → Bool
low_place_set p = not (value_of (slice_index p (length p - 1)) % 2 ^ (7 - (length p + 7) % 8) == 0)

-- a byte of p lies outside 1 to 128, its length is 1 modulo 8, or such a place is set
abbrev pub badly_packed : List ℕ → Bool
badly_packed p = not (all_sent p) || length p % 8 == 1 || low_place_set p

-- unpacking is refused with 13 exactly where the bytes, as far as they lie in the store, are badly packed
abbrev pub BadlyPackedRefused : Type 0
BadlyPackedRefused =
    (store : List ℕ) (from count : ℕ)
    → ((unpacked_in store from count).0 ≡ refused 13) ↔ (badly_packed (take count (drop from store)) ≡ true)
