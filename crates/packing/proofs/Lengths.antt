-- Packing and unpacking group by group, and how long the results are.
use Rattle.std.proofs.Common.{◌≡◌, ℕ, suc, ◌+◌, ◌-◌, ◌/◌, ◌<◌, min, List, [], ◌++◌, length, take, drop, sym, refl, ap, ◌∙◌, arith, lit<, length-append, length-drop, take-append-drop, length-take}
use Rattle.packing.specs.Packed.{packed_group, packed_groups, packed, packed_length}
use Rattle.packing.specs.Unpacked.{unpacked_group, unpacked_groups, data_in_groups}
use Rattle.packing.proofs.Groups.{First, by_groups, first-take, first-drop}
use Rattle.packing.proofs.Group.{length_group, length-unpacked_group, group_append}

-- ---- the first group of a list

pub packed_nil : packed [] ≡ []
unfolding packed packed_groups
packed_nil = refl

pub packed-first : (g r : List ℕ) → First 7 g r → packed (g ++ r) ≡ packed_group g ++ packed r
unfolding packed packed_groups
packed-first g r f =
    let n : (length (g ++ r) + 6) / 7 ≡ suc ((length r + 6) / 7) = rw length-append (omega arith) in
    rw (n, first-take 7 g r f, first-drop 7 g r f)

pub data_in_groups_nil : data_in_groups [] ≡ []
unfolding data_in_groups unpacked_groups
data_in_groups_nil = refl

pub data_in_groups-first : (p r : List ℕ) → First 8 p r → data_in_groups (p ++ r) ≡ unpacked_group (length p - 1) p ++ data_in_groups r
unfolding data_in_groups unpacked_groups
data_in_groups-first p r f =
    let n : (length (p ++ r) + 7) / 8 ≡ suc ((length r + 7) / 8) = rw length-append (omega arith) in
    let k : min 7 (length (p ++ r) - 1) ≡ length p - 1 = rw length-append (omega arith) in
    rw (n, k, first-drop 8 p r f, group_append (length p - 1) p r (omega arith))

-- ---- the next group, as a loop meets it

pub packed-next : (k : ℕ) (l : List ℕ) → 0 < k → k ≡ min 7 (length l) → packed l ≡ packed_group (take k l) ++ packed (drop k l)
packed-next k l pos e =
    let a : length (take k l) ≡ min k (length l) = length-take k l in
    let b : length (drop k l) ≡ length l - k = length-drop k l in
    ap packed (sym (take-append-drop k l)) ∙ packed-first (take k l) (drop k l) (omega arith)

pub data_in_groups-next : (k : ℕ) (p : List ℕ) → suc k ≡ min 8 (length p) → data_in_groups p ≡ unpacked_group k p ++ data_in_groups (drop (suc k) p)
data_in_groups-next k p e =
    let q : List ℕ = take (suc k) p in
    let r : List ℕ = drop (suc k) p in
    let a : length q ≡ min (suc k) (length p) = length-take (suc k) p in
    let b : length r ≡ length p - suc k = length-drop (suc k) p in
    let n : length q - 1 ≡ k = omega arith in
    let whole : unpacked_group k p ≡ unpacked_group k q = ap (unpacked_group k) (sym (take-append-drop (suc k) p)) ∙ group_append k q r (omega arith) in
    ap data_in_groups (sym (take-append-drop (suc k) p))
    ∙ data_in_groups-first q r (omega arith)
    ∙ ap (λ (m : ℕ). unpacked_group m q ++ data_in_groups r) n
    ∙ ap (λ (g : List ℕ). g ++ data_in_groups r) (sym whole)

-- ---- lengths

pub length-packed : (d : List ℕ) → length (packed d) ≡ packed_length (length d)
length-packed =
    by_groups 7 (lit< tt) (λ d. length (packed d) ≡ packed_length (length d)) (ap length packed_nil)
    (λ g r f ih. rw (packed-first g r f, length-append, length-append, length_group, ih) (omega arith))

-- 1,024 data bytes pack to 1,171
pub longest : (d : List ℕ) → length d ≡ 1024 → length (packed d) ≡ 1171
longest d e = rw (length-packed d, e)

pub length-data_in_groups : (p : List ℕ) → length (data_in_groups p) ≡ length p - (length p + 7) / 8
length-data_in_groups =
    by_groups 8 (lit< tt) (λ p. length (data_in_groups p) ≡ length p - (length p + 7) / 8) (ap length data_in_groups_nil)
    (λ q r f ih.
    let k : length (unpacked_group (length q - 1) q) ≡ length q - 1 = length-unpacked_group (length q - 1) q (omega arith) in
    rw (data_in_groups-first q r f, length-append, length-append, k, ih) (omega arith))
