-- One group: its length, and packing and unpacking it.
use Rattle.std.proofs.Common.{◌≡◌, ℕ, suc, ◌+◌, ◌*◌, ◌/◌, ◌%◌, ◌^◌, ◌<◌, ◌≤◌, true, List, [], ◌∷◌, ◌++◌, map, length, get_or, take, sym, refl, ap, ◌∙◌, ap₂, le_of_lt, mod-lt, arith, lit<, length-append, length-take-le, take_all, take-suc, take_at, pow_pos, eqb-true}
use native.Mathlib.Nat.{div-eq_of_lt}
use lib.ListN.{length-map, get_or-append}
use lib.Pow.{shl-shr}
use lib.Seq.{take-append-le, get_or_at}
use Rattle.runs.specs.Runs.{Bytes}
use Rattle.runs.proofs.Cases.{and_both}
use Rattle.packing.specs.Seven.{sent, is_sent}
use Rattle.packing.specs.Packed.{last_place, tops_after, tops_of, packed_group}
use Rattle.packing.specs.Unpacked.{joined, unpacked_group, all_sent, unused_clear}
use Rattle.packing.proofs.Seven.{sent_value, value_sent, sent_is, all_sent_append}
use Rattle.packing.proofs.Tops.{low_sent, tops_joined, joined_tops, length-joined, tops_placed, tops_back}

-- what goes out for the bytes l of the group g and behind them
abbrev pub still : List ℕ → List ℕ → List ℕ
still g l = map low_sent l ++ (sent (tops_of g) ∷ [])

pub length_group : (g : List ℕ) → length (packed_group g) ≡ suc (length g)
unfolding packed_group
length_group g = simp (length-append, length-map) (omega arith)

pub length-unpacked_group : (k : ℕ) (p : List ℕ) → k ≤ length p → length (unpacked_group k p) ≡ k
unfolding unpacked_group
length-unpacked_group k p h = length-joined _ (take k p) ∙ length-take-le k p h

-- a group is read from its own bytes
pub group_append : (k : ℕ) (p r : List ℕ) → k < length p → unpacked_group k (p ++ r) ≡ unpacked_group k p
unfolding unpacked_group
group_append k p r h = rw (get_or-append p r 0 k, take-append-le k p r (le_of_lt h))

-- the last byte of a group carries its top bits
pub group_last : (g : List ℕ) → Bytes g → length g ≤ 7 → get_or (packed_group g) (length g) 0 % 128 ≡ tops_of g
unfolding packed_group
group_last g h l =
    ap (λ (b : ℕ). b % 128) (get_or_at (map low_sent g) (sent (tops_of g)) [] 0 (length g) (length-map g low_sent))
    ∙ sent_value (tops_placed g h l)

pub group_back : (g : List ℕ) → Bytes g → length g ≤ 7 → unpacked_group (length g) (packed_group g) ≡ g
unfolding packed_group unpacked_group
group_back g h l =
    rw (group_last g h l, take_at (map low_sent g) (sent (tops_of g) ∷ []) (length g) (length-map g low_sent))
    (ap (λ (t : ℕ). joined t (map low_sent g)) (tops_back g) ∙ joined_tops 0 g h)

-- low bits are read back from bytes in 1 to 128
lows_joined : (t : ℕ) (g : List ℕ) → all_sent g ≡ true → map low_sent (joined t g) ≡ g
unfolding joined all_sent
lows_joined t [] h = refl
lows_joined t (b ∷ g) h =
    let both : (is_sent b ≡ true) × (all_sent g ≡ true) = and_both (is_sent b) (all_sent g) h in
    let e : (b % 128 + 128 * (t / 2 ^ length g % 2)) % 128 ≡ b % 128 = omega arith in
    ap₂ ◌∷◌ (ap (λ (v : ℕ). sent v) e ∙ value_sent b both.0) (lows_joined t g both.1)

-- a group as sent, with no unused place set, is the group of its data bytes
pub group_canonical : (k : ℕ) (q : List ℕ) → length q ≡ suc k → all_sent q ≡ true → unused_clear k (get_or q k 0 % 128) ≡ true
    → packed_group (unpacked_group k q) ≡ q
unfolding packed_group unpacked_group unused_clear all_sent tops_of
group_canonical k q n s u =
    let g : List ℕ = take k q in
    let b : ℕ = get_or q k 0 in
    let place : ℕ = last_place k in
    let v : ℕ = b % 128 in
    let t : ℕ = v / 2 ^ place in
    let snoc : q ≡ g ++ (b ∷ []) = sym (take_all (suc k) q (omega arith)) ∙ take-suc q k 0 (omega arith) in
    let long : length g ≡ k = length-take-le k q (omega arith) in
    let parts : (all_sent g ≡ true) × (all_sent (b ∷ []) ≡ true) =
    and_both (all_sent g) (all_sent (b ∷ [])) (sym (ap all_sent snoc ∙ all_sent_append g (b ∷ [])) ∙ s) in
    let clear : t % 2 ^ k * 2 ^ place ≡ v = eqb-true _ v u in
    let own : t ≡ t % 2 ^ k = ap (λ (n : ℕ). n / 2 ^ place) (sym clear) ∙ shl-shr (t % 2 ^ k) place in
    let high : t / 2 ^ k ≡ 0 = div-eq_of_lt (omega (arith, own, mod-lt t (pow_pos k))) in
    let back : t * 2 ^ place ≡ v = ap (λ (n : ℕ). n * 2 ^ place) own ∙ clear in
    let tops : tops_after 0 (joined t g) ≡ t = rw (long, high) at (tops_joined t g) in
    rw (length-joined t g, long, tops, back)
    (ap₂ (λ (x : List ℕ) (y : ℕ). x ++ (y ∷ [])) (lows_joined t g parts.0) (value_sent b (and_both (is_sent b) true parts.1).0) ∙ sym snoc)

pub group_sent : (g : List ℕ) → Bytes g → length g ≤ 7 → all_sent (packed_group g) ≡ true
unfolding packed_group all_sent
group_sent g h l = all_sent_append (map low_sent g) (sent (tops_of g) ∷ []) ∙ rw (lows_sent g, sent_is (tops_placed g h l))
  where
    lows_sent : (g : List ℕ) → all_sent (map low_sent g) ≡ true
    lows_sent [] = refl
    lows_sent (b ∷ g) = rw (sent_is {v = b % 128} (mod-lt b (lit< tt))) (lows_sent g)
