-- What is well packed, group by group.
use Rattle.std.proofs.Common.{◌≡◌, ℕ, suc, ◌+◌, ◌-◌, ◌%◌, ◌<◌, ◌≤◌, true, false, not, ◌&&◌, eqb, List, [], ◌∷◌, ◌++◌, length, get_or, sym, ap, ◌∙◌, append-nil, mod-lt, arith, lit<, lit≤, length-append, get_or-append-add, ne_eqb}
use mathlib.Core.Bool.{and_assoc, and-true}
use borrow.Author.Tests.{eqb-false, not-true}
use Rattle.runs.specs.Runs.{Bytes}
use Rattle.runs.proofs.Cases.{and_both}
use Rattle.packing.specs.Packed.{packed_group}
use Rattle.packing.specs.Unpacked.{unpacked_group, all_sent, unused_clear, well_ended, well_packed}
use Rattle.packing.proofs.Groups.{First}
use Rattle.packing.proofs.Seven.{all_sent_append}
use Rattle.packing.proofs.Tops.{tops_clear, full_clear}
use Rattle.packing.proofs.Group.{length_group, group_last, group_canonical, group_sent}

-- a single group of k data bytes ends well where its unused places are clear
ended_group : (k b : ℕ) → 0 < k → k ≤ 7 → well_ended (suc k) b ≡ unused_clear k (b % 128)
unfolding well_ended
ended_group k b pos l =
    let n : suc k % 8 ≡ 1 → ⊥ = λ e. omega arith in
    let m : (suc k + 7) % 8 ≡ k = omega arith in
    rw (ne_eqb (suc k % 8) 1 n, m)

-- eight bytes more in front change nothing
ended-more : (n b : ℕ) → well_ended (8 + n) b ≡ well_ended n b
unfolding well_ended
ended-more n b =
    let e : (8 + n) % 8 ≡ n % 8 = omega arith in
    let l : (8 + n + 7) % 8 ≡ (n + 7) % 8 = omega arith in
    rw (e, l)

-- eight bytes end well whatever the last
ended_full : (b : ℕ) → well_ended 8 b ≡ true
ended_full b = ended_group 7 b (lit< tt) (lit≤ tt) ∙ full_clear (mod-lt b (lit< tt))

pub group_well : (g : List ℕ) → Bytes g → 0 < length g → length g ≤ 7 → well_packed (packed_group g) ≡ true
unfolding well_packed
group_well g h pos l =
    let k : ℕ = length g in
    let last : suc k - 1 ≡ k = omega arith in
    rw (group_sent g h l, length_group g, last, ended_group k (get_or (packed_group g) k 0) pos l, group_last g h l) (tops_clear g h)

pub well_nil : well_packed [] ≡ true
unfolding well_packed all_sent
well_nil = sym (ended-more 0 0) ∙ ended_full 0

pub well_empty : (p : List ℕ) → length p ≡ 0 → well_packed p ≡ true
well_empty [] e = well_nil
well_empty (b ∷ p) e = absurd (omega arith)

well_more : (q : List ℕ) (x : ℕ) (r : List ℕ) → length q ≡ 8 → well_packed (q ++ x ∷ r) ≡ (well_packed q && well_packed (x ∷ r))
unfolding well_packed
well_more q x r n8 =
    let place : length q + suc (length r) - 1 ≡ length q + (suc (length r) - 1) = omega arith in
    rw (all_sent_append q (x ∷ r), length-append q (x ∷ r), place, get_or-append-add q (x ∷ r) (suc (length r) - 1) 0, n8, ended-more, ended_full, and-true, and_assoc)

-- a list is well packed exactly if its first group and the rest are
pub well_first : (q r : List ℕ) → First 8 q r → well_packed (q ++ r) ≡ (well_packed q && well_packed r)
well_first q [] f = rw (append-nil q, well_nil, and-true)
well_first q (x ∷ r) f = well_more q x r (omega arith)

-- a well packed group has a data byte, and is the group of its data bytes
pub well_group : (q : List ℕ) → 0 < length q → length q ≤ 8 → well_packed q ≡ true
    → (1 < length q) × (packed_group (unpacked_group (length q - 1) q) ≡ q)
unfolding well_packed well_ended
well_group q pos l w =
    let k : ℕ = length q - 1 in
    let n : length q ≡ suc k = omega arith in
    let b : ℕ = get_or q k 0 in
    let parts : (all_sent q ≡ true) × (well_ended (length q) b ≡ true) = and_both (all_sent q) (well_ended (length q) b) w in
    let odd : eqb (length q % 8) 1 ≡ false =
    not-true _ (and_both (not (eqb (length q % 8) 1)) (unused_clear ((length q + 7) % 8) (b % 128)) parts.1).0 in
    let more : length q % 8 ≡ 1 → ⊥ = eqb-false (length q % 8) 1 odd in
    let two : 1 < length q = omega arith in
    let clear : unused_clear k (b % 128) ≡ true =
    sym (ended_group k b (omega arith) (omega arith)) ∙ ap (λ (m : ℕ). well_ended m b) (sym n) ∙ parts.1 in
    (two, group_canonical k q n parts.0 clear)
