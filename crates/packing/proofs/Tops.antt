-- The top bits of a group, and their places.
use Rattle.std.proofs.Common.{◌≡◌, ℕ, suc, ◌+◌, ◌-◌, ◌*◌, ◌/◌, ◌%◌, ◌^◌, ◌<◌, ◌≤◌, true, List, [], ◌∷◌, map, length, refl, ap, ◌∙◌, ap₂, le_refl, lt_of_lt_of_le, mod-lt, mod-eq_of_lt, div-lt_iff_lt-mul, one-mul, pow-suc, mul-one, div-one, arith, lit<, lit≤, pow_pos, pow_mono, shl_lt, shl_exact, shr-shr, eq-eqb}
use native.Mathlib.Nat.{div-div-eq-div-mul}
use lib.ListN.{length-map}
use lib.Pow.{shl-shr}
use Rattle.runs.specs.Runs.{Bytes}
use Rattle.packing.specs.Seven.{sent}
use Rattle.packing.specs.Packed.{last_place, tops_after, tops_of}
use Rattle.packing.specs.Unpacked.{joined, unused_clear}
use Rattle.packing.proofs.Seven.{sent_value}

-- the byte that carries the low bits of a data byte
abbrev pub low_sent : ℕ → ℕ
low_sent b = sent (b % 128)

-- ---- the bits in their order

-- the bits in front of a group's own are the quotient
tops_high : (t : ℕ) (g : List ℕ) → Bytes g → tops_after t g / 2 ^ length g ≡ t
unfolding tops_after
tops_high t [] h = div-one t
tops_high t (b ∷ g) h =
    let top : b < 256 = h 0 in
    let ih : tops_after (2 * t + b / 128) g / 2 ^ length g ≡ 2 * t + b / 128 = tops_high (2 * t + b / 128) g (λ i. h (suc i)) in
    rw (pow-suc 2 (length g), ← div-div-eq-div-mul, ih) (omega arith)

pub tops_le : (t : ℕ) (g : List ℕ) → t ≤ tops_after t g
unfolding tops_after
tops_le t [] = le_refl t
tops_le t (b ∷ g) = omega (arith, tops_le (2 * t + b / 128) g)

pub tops_lt : (g : List ℕ) → Bytes g → tops_after 0 g < 2 ^ length g
tops_lt g h =
    let e : tops_after 0 g / 2 ^ length g < 1 = omega (arith, tops_high 0 g h) in
    omega (arith, (div-lt_iff_lt-mul (pow_pos (length g))).0 e)

-- ---- there and back

-- the bits t are those of the bytes joined with them, behind the bits above
pub tops_joined : (t : ℕ) (g : List ℕ) → tops_after (t / 2 ^ length g) (joined t g) ≡ t
unfolding tops_after joined
tops_joined t [] = div-one t
tops_joined t (b ∷ g) =
    let q : ℕ = t / 2 ^ length g in
    let e : 2 * (q / 2) + (b % 128 + 128 * (q % 2)) / 128 ≡ q = omega arith in
    rw (pow-suc 2 (length g), ← div-div-eq-div-mul) (ap (λ n. tops_after n (joined t g)) e ∙ tops_joined t g)

-- the data bytes of a group come back from their low and top bits
pub joined_tops : (t : ℕ) (g : List ℕ) → Bytes g → joined (tops_after t g) (map low_sent g) ≡ g
unfolding tops_after joined
joined_tops t [] h = refl
joined_tops t (b ∷ g) h =
    let c : ℕ = 2 * t + b / 128 in
    let top : b < 256 = h 0 in
    let low : b % 128 < 128 = mod-lt b (lit< tt) in
    rw (length-map g low_sent, tops_high c g (λ i. h (suc i)), sent_value low)
    (ap₂ ◌∷◌ (omega arith) (joined_tops c g (λ i. h (suc i))))

pub length-joined : (t : ℕ) (g : List ℕ) → length (joined t g) ≡ length g
unfolding joined
length-joined t [] = refl
length-joined t (b ∷ g) = ap suc (length-joined t g)

-- ---- the places: the first law is all that the others know of `last_place`

-- the k bytes of a group have the highest of the seven places
pub place-last : (k : ℕ) → k ≤ 7 → last_place k ≡ 7 - k
unfolding last_place
place-last k h = omega arith

pub place_room : (k : ℕ) → k ≤ 7 → k + last_place k ≤ 7
place_room k h = omega (arith, place-last k h)

-- byte j of a group stands at place 6 - j, counted from the last byte's at k - 1 - j
pub place_back : (v k j : ℕ) → k ≤ 7 → j < k → v / 2 ^ last_place k / 2 ^ (k - 1 - j) ≡ v / 2 ^ (6 - j)
place_back v k j h l =
    let place : last_place k + (k - 1 - j) ≡ 6 - j = omega (arith, place-last k h) in
    shr-shr v (last_place k) (k - 1 - j) ∙ ap (λ (n : ℕ). v / 2 ^ n) place

-- the top bits of at most seven bytes make a seven-bit value
pub tops_placed : (g : List ℕ) → Bytes g → length g ≤ 7 → tops_of g < 128
unfolding tops_of
tops_placed g h l = lt_of_lt_of_le (shl_lt (length g) (last_place (length g)) (tops_lt g h)) (pow_mono (place_room (length g) l))

pub tops_small : (g : List ℕ) → Bytes g → length g ≤ 7 → tops_after 0 g < 128
tops_small g h l = lt_of_lt_of_le (tops_lt g h) (pow_mono {j = 7} l)

-- the top bits come back from their places
pub tops_back : (g : List ℕ) → tops_of g / 2 ^ last_place (length g) ≡ tops_after 0 g
unfolding tops_of
tops_back g = shl-shr (tops_after 0 g) (last_place (length g))

-- a group's own top bits set no unused place
pub tops_clear : (g : List ℕ) → Bytes g → unused_clear (length g) (tops_of g) ≡ true
unfolding unused_clear tops_of
tops_clear g h = rw (shl-shr (tops_after 0 g) (last_place (length g)), mod-eq_of_lt (tops_lt g h)) (eq-eqb (tops_of g) _ refl)

-- a group of seven has no unused place
pub full_clear : {v : ℕ} → v < 128 → unused_clear 7 v ≡ true
unfolding unused_clear
full_clear {v} h =
    let e : last_place 7 ≡ 0 = omega (arith, place_room 7 (lit≤ tt)) in
    rw (e, div-one, mod-eq_of_lt h, mul-one, eq-eqb v v refl)

-- a one shifted by at most seven places stays in a byte
pub one_shl : {k : ℕ} → k ≤ 7 → 1 * 2 ^ k % 256 ≡ 2 ^ k
one_shl {k} h = shl_exact 1 k 8 (lit< tt) (omega arith) ∙ one-mul (2 ^ k)
