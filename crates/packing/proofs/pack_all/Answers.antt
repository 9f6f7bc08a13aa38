use Rattle.std.proofs.Common.{eqb, true, ◌≡◌, ℕ, ◌+◌, ◌-◌, ◌*◌, ◌<◌, ◌≤◌, min, List, [], ◌++◌, length, take, drop, sym, refl, ap, ◌∙◌, append-nil, arith, length-drop, drop_of_length-le, length-take, drop-drop}
use borrow.Author.Tests.{eqb-true, eqb-false}
use mathlib.Core.List.{sum}
use lib.Seq.{sets}
use Rattle.runs.specs.Total.{total_from}
use Rattle.runs.proofs.Carried.{total_append}
use Rattle.runs.proofs.Run.{Run, run-start, run-part, run_end, run-front}
use Rattle.packing.specs.Packed.{packed, packed_length, packed_group}
use Rattle.packing.proofs.Group.{length_group}
use Rattle.packing.proofs.Lengths.{length-packed, packed_nil, packed-next}
use Rattle.packing.proofs.pack_all.Goals as goal

-- the group from place i to place e, as `&data[i..e]` has it
abbrev group : List ℕ → ℕ → ℕ → List ℕ
group d i e = take (e - i) (drop i d)

module _ (d : List ℕ) (i e : ℕ) (more : i < e) (k : e - i ≡ min 7 (length d - i)) where
  group-length : length (group d i e) ≡ e - i
  group-length = simp (length-take, length-drop) (omega arith)

  group-next : packed (drop i d) ≡ packed_group (group d i e) ++ packed (drop e d)
  group-next =
      let n : i + (e - i) ≡ e = omega arith in
      packed-next (e - i) (drop i d) (omega arith) (rw length-drop k)
      ∙ ap (λ (l : List ℕ). packed_group (group d i e) ++ packed l) (drop-drop (e - i) i d ∙ ap (λ (m : ℕ). drop m d) n)

-- a group more has room: n bytes are stored for the first i of l data bytes
room : (l i k n at m : ℕ) → 0 < k → k ≡ min 7 (l - i) → n + packed_length (l - i) ≡ packed_length l → at + packed_length l ≤ m
    → at + n + k < m
room l i k n at m h e c f = omega arith

-- the first n packed bytes of d are stored in place of those of out₀, and those of the data from i on are still to come
module _ (d : List ℕ) (i : ℕ) {out₀ out : List ℕ} {at n : ℕ} (r : Run out₀ at (packed d) n (packed (drop i d)) out) where
  counts : n + packed_length (length d - i) ≡ packed_length (length d)
  counts = rw (length-packed (drop i d), length-packed d, length-drop) at r.left

  -- so what is stored lies in out
  within : at + n ≤ length out
  within = omega (arith, r)

  -- the group from the place at hand to place e, which is the next one, has at most seven bytes, and room
  fits : (e : ℕ) → i < e → e - i ≡ min 7 (length d - i) → (length (group d i e) ≤ 7) × (at + n + length (group d i e) < length out)
  fits e more k =
      let g = group-length d i e more k in
      let f : at + packed_length (length d) ≤ length out₀ = rw length-packed at r.fits in
      let free : at + n + (e - i) < length out₀ = room (length d) i (e - i) n at (length out₀) (omega arith) k counts f in
      (omega arith, rw (g, r.long) free)

  -- with it stored, those of the data from e on are still to come
  stored : (e : ℕ) → i < e → e - i ≡ min 7 (length d - i) → (m : ℕ) (out' : List ℕ) → m ≡ n + (e - i + 1)
      → out' ≡ sets out (at + n) (packed_group (group d i e)) → Run out₀ at (packed d) m (packed (drop e d)) out'
  stored e more k m out' c o =
      run-part (packed_group (group d i e)) r (group-next d i e more k) (omega (arith, length_group (group d i e), group-length d i e more k)) o

  -- what stands in memory, carried on over the rest, is the total of the whole
  abbrev Front : List ℕ
  Front = take (at + n - at) (drop at out)

  both : Front ++ packed (drop i d) ≡ packed d
  both =
      let e : at + n - at ≡ n = omega arith in
      ap (λ (k : ℕ). take k (drop at out) ++ packed (drop i d)) e ∙ run-front r

  carried : (start total : ℕ) → total ≡ total_from start Front → total_from total (packed (drop i d)) ≡ total_from start (packed d)
  carried start total h =
      ap (λ (t : ℕ). total_from t (packed (drop i d))) h
      ∙ sym (total_append start Front (packed (drop i d)))
      ∙ ap (total_from start) both

-- past the data there is nothing to pack
none : (d : List ℕ) (i : ℕ) → length d ≤ i → packed (drop i d) ≡ []
none d i h = ap packed (drop_of_length-le d h) ∙ packed_nil

-- the last group ends the run
one : (d : List ℕ) (i : ℕ) → i < length d → length d - i ≡ min 7 (length d - i)
    → packed (drop i d) ≡ packed_group (group d i (length d))
one d i h k =
    let g = group d i (length d) in
    group-next d i (length d) h k ∙ ap (λ (l : List ℕ). packed_group g ++ l) (none d (length d) (omega arith)) ∙ append-nil (packed_group g)

-- nothing packs to nothing
empty : (d : List ℕ) → eqb (length d) 0 ≡ true → packed d ≡ []
empty d h = none d 0 (omega (arith, eqb-true (length d) 0 h))

pub returns-then-is_empty : goal.returns-then-is_empty
unfolding sum
returns-then-is_empty c =
    let e = empty c.args.«data».now (sym c.is_empty.ensures ∙ c.if-is_empty.true) in
    let zero : sum ◌+◌ 0 [] ≡ 0 = refl in
    record { total = rw e (omega (arith, zero, c.ranges.start.fits)); stored = rw e }

pub loop-i-init : goal.loop-i-init
loop-i-init c = run-start (rw length-packed c.requires) refl

pub loop-i-preserved : goal.loop-i-preserved
loop-i-preserved c =
    let d : List ℕ = c.args.«data».now in
    let i : ℕ = c.loop-i.i in
    let more : 7 * i + 7 < length d = omega (arith, c.group_count-groups.ensures) in
    let next : 7 * i + 7 ≡ 7 * (i + 1) = omega arith in
    rw next at (stored d (7 * i) c.loop-i.invariant (7 * i + 7) (omega arith) (omega arith) (8 * (i + 1)) _ (omega arith) c.pack_group.ensures.stored)

pub returns : goal.returns
returns c =
    let d : List ℕ = c.args.«data».now in
    let groups : ℕ = c.group_count-groups.result - 1 in
    let some : length d ≡ 0 → ⊥ = eqb-false _ 0 (sym c.is_empty.ensures ∙ c.if-is_empty.false) in
    let all : c.loop-i.i ≡ groups = omega arith in
    let more : 7 * groups < length d = omega (arith, c.group_count-groups.ensures) in
    let few : length d - 7 * groups ≡ min 7 (length d - 7 * groups) = omega (arith, c.group_count-groups.ensures) in
    let r = rw all at c.loop-i.invariant in
    let e = one d (7 * groups) more few in record {
      total =
          c.pack_group-2.ensures.total
          ∙ ap (total_from c.total-total.result) (sym e)
          ∙ carried d (7 * groups) r c.args.start c.total-total.result c.total-total.ensures;
      stored = run_end (stored d (7 * groups) r (length d) more few _ _ refl c.pack_group-2.ensures.stored) (none d (length d) (omega arith));
    }
