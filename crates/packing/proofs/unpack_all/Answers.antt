use Rattle.std.proofs.Common.{◌≡◌, ℕ, suc, ◌+◌, ◌-◌, ◌*◌, ◌/◌, ◌%◌, ◌<◌, ◌≤◌, min, List, [], ◌++◌, length, drop, sym, refl, ap, ◌∙◌, ap₂, zero-add, arith, length-drop, take-append-drop, drop_of_length-le, length-take, drop-drop}
use Rattle.std.proofs.lemmas.List.{drop_min}
use lib.Seq.{drop-append-le}
use Rattle.runs.proofs.Run.{Run, run-start, run-part, run_drop, run_end}
use Rattle.packing.specs.Unpacked.{unpacked_group, data_in_groups}
use lib.Seq.{sets}
use Rattle.packing.proofs.Inside.{part}
use Rattle.packing.proofs.Group.{group_append, length-unpacked_group}
use Rattle.packing.proofs.Lengths.{data_in_groups_nil, data_in_groups-next, length-data_in_groups}
use Rattle.packing.proofs.unpack_all.Goals as goal

-- the group of k data bytes that starts at packed byte e
module _ (d : List ℕ) (from count e k : ℕ) (h : from + count ≤ length d) (l : e < count) (q : k ≡ min (count - e - 1) 7) where
  long : length (drop e (part d from count)) ≡ count - e
  long = simp (length-take, length-drop) (omega arith)

  here : unpacked_group k (drop (from + e) d) ≡ unpacked_group k (drop e (part d from count))
  here =
      let p : List ℕ = part d from count in
      let r : List ℕ = drop count (drop from d) in
      let inside : e ≤ length p = simp (length-take, length-drop) (omega arith) in
      ap (unpacked_group k) (sym (drop-drop e from d) ∙ ap (drop e) (sym (take-append-drop count (drop from d))) ∙ drop-append-le e p r inside)
      ∙ group_append k (drop e p) r (omega (arith, long))

  group-length : length (unpacked_group k (drop (from + e) d)) ≡ k
  group-length = length-unpacked_group k (drop (from + e) d) (simp length-drop (omega arith))

  next : data_in_groups (drop e (part d from count))
      ≡ unpacked_group k (drop (from + e) d) ++ data_in_groups (drop (e + 8) (part d from count))
  next =
      let p : List ℕ = part d from count in
      let n : e + suc k ≡ min (e + 8) (length p) = simp (length-take, length-drop) (omega arith) in
      data_in_groups-next k (drop e (part d from count)) (omega (arith, long))
      ∙ ap₂ (λ (g r : List ℕ). g ++ data_in_groups r) (sym here)
      (drop-drop (suc k) e p ∙ ap (λ (i : ℕ). drop i p) n ∙ drop_min (e + 8) p)

  -- with it stored behind the n data bytes before it, those of the packed bytes behind it are still to come
  stored : {n : ℕ} {store : List ℕ} (store' : List ℕ) → n ≤ e
      → Run d 0 (data_in_groups (part d from count)) n (data_in_groups (drop e (part d from count))) store
      → store' ≡ sets store n (unpacked_group k (drop (from + e) store))
      → Run d 0 (data_in_groups (part d from count)) (n + k) (data_in_groups (drop (e + 8) (part d from count))) store'
  stored {n} {store} store' b r s =
      let put : store' ≡ sets store (0 + n) (unpacked_group k (drop (from + e) d)) =
      s ∙ ap₂ (λ (j : ℕ) (l : List ℕ). sets store j (unpacked_group k l)) (sym (zero-add n)) (run_drop (from + e) (omega arith) r) in
      run-part {m = n + k} (unpacked_group k (drop (from + e) d)) r next (omega (arith, group-length)) put

-- past the packed bytes nothing is left
none : (p : List ℕ) (e : ℕ) → length p ≤ e → data_in_groups (drop e p) ≡ []
none p e h = ap data_in_groups (drop_of_length-le p h) ∙ data_in_groups_nil

pub loop-i-init : goal.loop-i-init
loop-i-init c =
    let p : List ℕ = part c.args.store.now c.args.from c.args.count in
    let n : length p ≤ length c.args.store.now = simp (length-take, length-drop) (omega arith) in
    run-start (omega (arith, length-data_in_groups p)) refl

pub loop-i-preserved : goal.loop-i-preserved
loop-i-preserved c =
    let i : ℕ = c.loop-i.i in
    let e : 8 * i + 8 ≡ 8 * (i + 1) = omega arith in
    let n : 7 * i + 7 ≡ 7 * (i + 1) = omega arith in
    rw (e, n) at
    (stored c.args.store.now c.args.from c.args.count (8 * i) 7 c.requires (omega arith) (omega arith) _ (omega arith) c.loop-i.invariant
    c.unpack_group.ensures)

pub returns-then-rest-eq0 : goal.returns-then-rest-eq0
returns-then-rest-eq0 c =
    let p : List ℕ = part c.args.store.now c.args.from c.args.count in
    let long : length p ≡ c.args.count = simp (length-take, length-drop) (omega arith) in
    let e = none p (8 * c.loop-i.i) (omega arith) in
    record { counted = omega (arith, ap length e, c.loop-i.invariant); stored = run_end c.loop-i.invariant e }

pub returns : goal.returns
returns c =
    let d : List ℕ = c.args.store.now in
    let count : ℕ = c.args.count in
    let groups : ℕ = count / 8 in
    let p : List ℕ = part d c.args.from count in
    let long : length p ≡ count = simp (length-take, length-drop) (omega arith) in
    let all : c.loop-i.i ≡ groups = omega arith in
    let r = rw all at c.loop-i.invariant in
    let s = stored d c.args.from count (8 * groups) (count % 8 - 1) c.requires (omega arith) (omega arith) _ (omega arith) r c.unpack_group-2.ensures in
    let e = none p (8 * groups + 8) (omega arith) in
    record { counted = omega (arith, ap length e, s); stored = run_end s e }
