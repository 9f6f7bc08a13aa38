-- Where each bit of the data stands.
use Rattle.std.proofs.Common.{◌≡◌, ℕ, zero, suc, ◌+◌, ◌-◌, ◌*◌, ◌/◌, ◌%◌, ◌^◌, ◌<◌, ◌≤◌, min, List, [], ◌∷◌, ◌++◌, map, length, get_or, sym, ap, ◌∙◌, le_refl, le_of_lt, arith, lit<, length-append, get_or-append-add}
use native.Mathlib.Nat.{mul-mod_left}
use native.Mathlib.Decide.{dec_le}
use lib.ListN.{length-map, get_or-append}
use Rattle.runs.specs.Runs.{Bytes}
use Rattle.runs.proofs.Bytes.{map_at, bytes_left, bytes_right}
use Rattle.packing.specs.Seven.{sent, value_of}
use Rattle.packing.specs.Packed.{last_place, tops_after, tops_of, packed_group, packed}
use Rattle.packing.specs.Unpacked.{joined}
use Rattle.packing.specs.Claims.{tops_with, Placed, BitsPlaced}
use Rattle.packing.proofs.Groups.{First, by_groups}
use Rattle.packing.proofs.Tops.{low_sent, joined_tops, place-last, place_back, tops_back}
use Rattle.packing.proofs.Group.{length_group, group_last}
use Rattle.packing.proofs.Lengths.{packed-first, length-packed}

-- ---- in one group

-- byte j joined with its bit of t
joined_at : (t : ℕ) (g : List ℕ) (j : ℕ) → j < length g → get_or (joined t g) j 0 ≡ get_or g j 0 % 128 + 128 * (t / 2 ^ (length g - 1 - j) % 2)
unfolding joined
joined_at t [] j h = absurd (omega arith)
joined_at t (b ∷ g) zero h =
    let e : suc (length g) - 1 - 0 ≡ length g = omega arith in
    rw e
joined_at t (b ∷ g) (suc j) h =
    let e : suc (length g) - 1 - suc j ≡ length g - 1 - j = omega arith in
    rw e (joined_at t g j (omega arith))

-- the top bit of byte j, counted from the last byte's
bit_at : (g : List ℕ) (j : ℕ) → Bytes g → j < length g → tops_after 0 g / 2 ^ (length g - 1 - j) % 2 ≡ get_or g j 0 / 128
bit_at g j h l =
    let long : length (map low_sent g) ≡ length g = length-map g low_sent in
    let at_j = joined_at (tops_after 0 g) (map low_sent g) j (omega arith) in
    let e : get_or g j 0 ≡ get_or (map low_sent g) j 0 % 128 + 128 * (tops_after 0 g / 2 ^ (length (map low_sent g) - 1 - j) % 2) =
    sym (ap (λ (x : List ℕ). get_or x j 0) (joined_tops 0 g h)) ∙ at_j in
    omega (arith, rw long at e)

-- the top bit of byte j stands at place 6 - j
group_top : (g : List ℕ) (j : ℕ) → Bytes g → length g ≤ 7 → j < length g → tops_of g / 2 ^ (6 - j) % 2 ≡ get_or g j 0 / 128
group_top g j h l own = rw (← place_back (tops_of g) (length g) j l own, tops_back g) (bit_at g j h own)

-- no place below that of the last byte is set
group_below : (g : List ℕ) → length g ≤ 7 → tops_of g % 2 ^ (7 - length g) ≡ 0
unfolding tops_of
group_below g l = rw (← place-last (length g) l) (mul-mod_left (tops_after 0 g) (2 ^ last_place (length g)))

group_low : (g : List ℕ) (j : ℕ) → j < length g → get_or (packed_group g) j 0 ≡ low_sent (get_or g j 0)
unfolding packed_group
group_low g j l =
    let long : length (map low_sent g) ≡ length g = length-map g low_sent in
    get_or-append (map low_sent g) (sent (tops_of g) ∷ []) 0 j (omega arith) ∙ map_at low_sent g j l

-- ---- in data of any length

-- the byte of the top bits stands eight places further on where a full group stands in front
last-behind : (i j n m : ℕ) → i ≡ 7 + j → n ≡ 8 + m → 0 < m → min (8 * (i / 7) + 7) (n - 1) ≡ 8 + min (8 * (j / 7) + 7) (m - 1)
last-behind i j n m a b pos = omega arith

module _ (g r : List ℕ) (f : First 7 g r) (h : Bytes (g ++ r)) (i : ℕ) (l : i < length (g ++ r)) where
  both : length (g ++ r) ≡ length g + length r
  both = length-append g r

  -- the first group goes out, and behind it the rest
  all : length (packed (g ++ r)) ≡ suc (length g) + length (packed r)
  all = rw (packed-first g r f, length-append, length_group)

  in_first : (n : ℕ) → n ≤ length g → get_or (packed (g ++ r)) n 0 ≡ get_or (packed_group g) n 0
  in_first n l =
      let long : length (packed_group g) ≡ suc (length g) = length_group g in
      ap (λ (p : List ℕ). get_or p n 0) (packed-first g r f) ∙ get_or-append (packed_group g) (packed r) 0 n (omega arith)

  in_rest : (n : ℕ) → get_or (packed (g ++ r)) (suc (length g) + n) 0 ≡ get_or (packed r) n 0
  in_rest n = rw (packed-first g r f, ← length_group g) (get_or-append-add (packed_group g) (packed r) n 0)

  here : i < length g → Placed (g ++ r) i
  here own =
      let seven : length g ≤ 7 = omega arith in
      let hg : Bytes g = bytes_left g r h in
      let low : i + i / 7 ≡ i = omega arith in
      let place : i % 7 ≡ i = omega arith in
      let last : min (8 * (i / 7) + 7) (length (packed (g ++ r)) - 1) ≡ length g = omega (arith, all, length-packed r) in
      let at_last : get_or (packed (g ++ r)) (length g) 0 ≡ get_or (packed_group g) (length g) 0 = in_first (length g) (le_refl (length g)) in
      let tops : tops_with (g ++ r) i ≡ tops_of g =
      ap (λ (n : ℕ). value_of (get_or (packed (g ++ r)) n 0)) last ∙ ap (λ (b : ℕ). value_of b) at_last ∙ group_last g hg seven in
      let byte : get_or (g ++ r) i 0 ≡ get_or g i 0 = get_or-append g r 0 i own in
      record {
        low = rw (low, byte, in_first i (le_of_lt own)) (group_low g i own);
        top = rw (tops, place, byte) (group_top g i hg seven own);
        below =
            λ e.
            let short : 6 - i ≡ 7 - length g = omega (arith, both) in
            rw (tops, place, short) (group_below g seven);
      }

  behind : length g ≤ i → Placed r (i - length g) → Placed (g ++ r) i
  behind past p =
      let j : ℕ = i - length g in
      let full : length g ≡ 7 = omega (arith, both) in
      let from : i ≡ length g + j = omega arith in
      let low : i + i / 7 ≡ suc (length g) + (j + j / 7) = omega arith in
      let place : i % 7 ≡ j % 7 = omega arith in
      let some : 0 < length (packed r) = omega (arith, both, length-packed r) in
      let last : ℕ = min (8 * (j / 7) + 7) (length (packed r) - 1) in
      let further : min (8 * (i / 7) + 7) (length (packed (g ++ r)) - 1) ≡ suc (length g) + last =
      last-behind i j _ (length (packed r)) (omega arith) (rw full at all) some ∙ ap (λ (n : ℕ). suc n + last) (sym full) in
      let tops : tops_with (g ++ r) i ≡ tops_with r j =
      ap (λ (n : ℕ). value_of (get_or (packed (g ++ r)) n 0)) further ∙ ap (λ (b : ℕ). value_of b) (in_rest last) in
      let byte : get_or (g ++ r) i 0 ≡ get_or r j 0 = ap (λ (n : ℕ). get_or (g ++ r) n 0) from ∙ get_or-append-add g r j 0 in
      record {
        low = rw (low, byte, in_rest (j + j / 7)) p.low;
        top = rw (tops, place, byte) p.top;
        below = λ e. rw (tops, place) (p.below (omega (arith, both)));
      }

pub bits_placed : BitsPlaced
bits_placed =
    by_groups 7 (lit< tt) (λ d. Bytes d → (i : ℕ) → i < length d → Placed d i) (λ h i l. absurd (omega arith))
    (λ g r f ih h i l.
    elim (dec_le (suc i) (length g)) [
      | yes own ↦ here g r f h i l own
      | no past ↦ behind g r f h i l (omega arith) (ih (bytes_right g r h) (i - length g) (omega (arith, length-append g r)))
    ])
