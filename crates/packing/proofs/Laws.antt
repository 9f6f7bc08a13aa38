-- Packing and unpacking undo each other, and what their results hold.
use Rattle.std.proofs.Common.{◌≡◌, ℕ, zero, suc, ◌+◌, ◌-◌, ◌/◌, ◌<◌, ◌≤◌, min, Bool, true, false, cond, List, [], ◌∷◌, ◌++◌, length, get_or, drop, sym, refl, ap, ◌∙◌, subst, arith, lit<}
use mathlib.Core.Option.{none, some}
use Rattle.runs.specs.Runs.{Bytes}
use Rattle.runs.proofs.Bytes.{bytes_left, bytes_right, bytes_append}
use Rattle.runs.proofs.Cases.{and_both}
use Rattle.packing.specs.Packed.{packed_group, packed}
use Rattle.packing.specs.Unpacked.{joined, unpacked_group, unpacked_groups, data_in_groups, all_sent, well_ended, well_packed, unpacked}
use Rattle.packing.proofs.Groups.{First, by_groups}
use Rattle.packing.proofs.Seven.{all_sent-at}
use Rattle.packing.proofs.Group.{length_group, length-unpacked_group, group_back}
use Rattle.packing.proofs.Lengths.{packed_nil, packed-first, data_in_groups_nil, data_in_groups-first, length-packed, length-data_in_groups}
use Rattle.packing.proofs.WellPacked.{group_well, well_nil, well_first, well_group}

-- ---- there and back

round : (d : List ℕ) → Bytes d → (well_packed (packed d) ≡ true) × (data_in_groups (packed d) ≡ d)
round =
    by_groups 7 (lit< tt) (λ d. Bytes d → (well_packed (packed d) ≡ true) × (data_in_groups (packed d) ≡ d))
    (λ h. (ap well_packed packed_nil ∙ well_nil, ap data_in_groups packed_nil ∙ data_in_groups_nil)) more
  where
    more : (g r : List ℕ) → First 7 g r → (Bytes r → (well_packed (packed r) ≡ true) × (data_in_groups (packed r) ≡ r))
        → Bytes (g ++ r) → (well_packed (packed (g ++ r)) ≡ true) × (data_in_groups (packed (g ++ r)) ≡ g ++ r)
    more g r f ih h =
        let hg : Bytes g = bytes_left g r h in
        let rest : (well_packed (packed r) ≡ true) × (data_in_groups (packed r) ≡ r) = ih (bytes_right g r h) in
        let n : length (packed_group g) ≡ suc (length g) = length_group g in
        let f8 : First 8 (packed_group g) (packed r) = omega (arith, length-packed r) in
        let k : length (packed_group g) - 1 ≡ length g = omega arith in (
          rw (packed-first g r f, well_first (packed_group g) (packed r) f8, group_well g hg (omega arith) (omega arith), rest.0),
          rw (packed-first g r f, data_in_groups-first (packed_group g) (packed r) f8, k, group_back g hg (omega arith), rest.1),
        )

-- what is packed unpacks to the data
pub unpacked-packed : (d : List ℕ) → Bytes d → unpacked (packed d) ≡ some d
unfolding unpacked
unpacked-packed d h = rw ((round d h).0, (round d h).1)

back : (p : List ℕ) → well_packed p ≡ true → packed (data_in_groups p) ≡ p
back = by_groups 8 (lit< tt) (λ p. well_packed p ≡ true → packed (data_in_groups p) ≡ p) (λ w. ap packed data_in_groups_nil ∙ packed_nil) more
  where
    more : (q r : List ℕ) → First 8 q r → (well_packed r ≡ true → packed (data_in_groups r) ≡ r) → well_packed (q ++ r) ≡ true → packed (data_in_groups (q ++ r)) ≡ q ++ r
    more q r f ih w =
        let both : (well_packed q ≡ true) × (well_packed r ≡ true) = and_both (well_packed q) (well_packed r) (sym (well_first q r f) ∙ w) in
        let g : (1 < length q) × (packed_group (unpacked_group (length q - 1) q) ≡ q) = well_group q f.0 (omega arith) both.0 in
        let k : length (unpacked_group (length q - 1) q) ≡ length q - 1 = length-unpacked_group (length q - 1) q (omega arith) in
        let f7 : First 7 (unpacked_group (length q - 1) q) (data_in_groups r) = omega (arith, length-data_in_groups r) in
        rw (data_in_groups-first q r f, packed-first (unpacked_group (length q - 1) q) (data_in_groups r) f7, g.1, ih both.1)

-- what unpacks is well packed, and gives the data of all groups
unpacked_is : (p d : List ℕ) → unpacked p ≡ some d → (well_packed p ≡ true) × (data_in_groups p ≡ d)
unfolding unpacked
unpacked_is p d e = go (well_packed p) refl e
  where
    go : (b : Bool) → well_packed p ≡ b → cond b (some (data_in_groups p)) none ≡ some d → (well_packed p ≡ true) × (data_in_groups p ≡ d)
    go true w u = (w, (cc))
    go false w u = absurd (let z : ◌≡◌ {A = ℕ} 0 1 = cc in omega arith)

-- only the packed form of the data unpacks to them
pub packed-unpacked : (p d : List ℕ) → unpacked p ≡ some d → packed d ≡ p
packed-unpacked p d e =
    let u = unpacked_is p d e in
    ap packed (sym u.1) ∙ back p u.0

-- ---- what the results hold

-- packed bytes lie in 1 to 128
pub packed-sent : (d : List ℕ) → Bytes d → all_sent (packed d) ≡ true
unfolding well_packed
packed-sent d h =
    (and_both (all_sent (packed d)) (well_ended (length (packed d)) (get_or (packed d) (length (packed d) - 1) 0)) (round d h).0).0

pub packed_sent_at : (d : List ℕ) → Bytes d → (i : ℕ) → i < length (packed d) → (1 ≤ get_or (packed d) i 0) × (get_or (packed d) i 0 ≤ 128)
packed_sent_at d h = all_sent-at (packed d) (packed-sent d h)

pub length-unpacked : (p d : List ℕ) → unpacked p ≡ some d → length d ≡ length p - (length p + 7) / 8
length-unpacked p d e = ap length (sym (unpacked_is p d e).1) ∙ length-data_in_groups p

-- unpacked data are bytes
joined_bytes : (t : ℕ) (g : List ℕ) → Bytes (joined t g)
unfolding joined
joined_bytes t [] i = lit< tt
joined_bytes t (b ∷ g) zero = omega arith
joined_bytes t (b ∷ g) (suc i) = joined_bytes t g i

groups_bytes : (n : ℕ) (p : List ℕ) → Bytes (unpacked_groups n p)
unfolding unpacked_groups unpacked_group
groups_bytes zero p = λ i. lit< tt
groups_bytes (suc n) p = bytes_append (unpacked_group (min 7 (length p - 1)) p) (unpacked_groups n (drop 8 p)) (joined_bytes _ _) (groups_bytes n (drop 8 p))

pub bytes_unpacked : (p d : List ℕ) → unpacked p ≡ some d → Bytes d
unfolding data_in_groups
bytes_unpacked p d e = subst Bytes (unpacked_is p d e).1 (groups_bytes ((length p + 7) / 8) p)
