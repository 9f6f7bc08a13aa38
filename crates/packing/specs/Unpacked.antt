-- Unpacking, and what is badly packed.
use Rattle.std.specs.Prelude.{ℕ, zero, suc, ◌+◌, ◌-◌, ◌*◌, ◌/◌, ◌%◌, ◌^◌, min, Bool, true, cond, not, ◌&&◌, List, [], ◌∷◌, ◌++◌, length}
use Rattle.std.specs.Prelude.{take, drop, ◌==◌, slice_index}
use Rattle.std.proofs.Math.Option.{Option, none, some}
use Rattle.packing.specs.Seven.{is_sent, value_of}
use Rattle.packing.specs.Packed.{last_place}

-- the data bytes with the low bits that went out as the bytes of g and with the top bits t, shifted so that the last byte's is at place 0
unfoldable pub joined : ℕ → List ℕ → List ℕ
joined t [] = []
joined t (b ∷ g) = (value_of b + 128 * (t / 2 ^ length g % 2)) ∷ joined t g

-- the k data bytes of the group that p begins with: k bytes of low bits, then the byte of the top bits
unfoldable pub unpacked_group : ℕ → List ℕ → List ℕ
unpacked_group k p = joined (value_of (slice_index p k) / 2 ^ last_place k) (take k p)

-- the data bytes of the first n groups of p
unfoldable pub unpacked_groups : ℕ → List ℕ → List ℕ
unpacked_groups zero p = []
unpacked_groups (suc n) p = unpacked_group (min 7 (length p - 1)) p ++ unpacked_groups n (drop 8 p)

-- the data bytes of all groups of p, well packed or not
unfoldable pub data_in_groups : List ℕ → List ℕ
data_in_groups p = unpacked_groups ((length p + 7) / 8) p

-- every byte lies in 1 to 128
unfoldable pub all_sent : List ℕ → Bool
all_sent [] = true
all_sent (b ∷ p) = is_sent b && all_sent p

-- in the top bits v of a group of k bytes no place is set but those of its bytes
unfoldable pub unused_clear : ℕ → ℕ → Bool
unused_clear k v = v / 2 ^ last_place k % 2 ^ k * 2 ^ last_place k == v

-- a packed length of n is not 1 modulo 8, and the last byte b sets no unused place; the last group has (n + 7) % 8 data bytes
unfoldable pub well_ended : ℕ → ℕ → Bool
well_ended n b = not (n % 8 == 1) && unused_clear ((n + 7) % 8) (value_of b)

-- none of the reasons for refusal 13 holds
unfoldable pub well_packed : List ℕ → Bool
well_packed p = all_sent p && well_ended (length p) (slice_index p (length p - 1))

-- the data that p was packed from, none where p is badly packed
unfoldable pub unpacked : List ℕ → Option (List ℕ)
unpacked p = cond (well_packed p) (some (data_in_groups p)) none
