-- A run that a loop stores into memory from a place `at` on, element by element or part by part: what has been stored, followed by
-- what is still to be stored, is the whole run.
use Rattle.std.proofs.Common.{◌≡◌, ℕ, suc, ◌+◌, ◌<◌, ◌≤◌, List, [], ◌∷◌, ◌++◌, length, get_or, take, drop, set, sym, refl, ap, ◌∙◌, ap₂, append_assoc, append-nil, add-zero, zero-add, add-one, arith, length-append, take-append-drop, length-take-le, get_or-drop, take-suc, drop-set-lt, drop_at}
use lib.Seq.{sets, sets-eq, length-sets, take-append_seam, set_split, append_snoc}
use Rattle.runs.specs.Runs.{over}

module _ {A : Type 0} where
  pub sets_append : (xs ys l : List A) (i : ℕ) → sets l i (xs ++ ys) ≡ sets (sets l i xs) (i + length xs) ys
  sets_append [] ys l i = rw add-zero
  sets_append (x ∷ xs) ys l i =
      sets_append xs ys (set l i x) (suc i) ∙ ap (λ (k : ℕ). sets (sets (set l i x) (suc i) xs) k ys) (omega arith)

  -- one element more of a run
  pub sets_more : (l : List A) (i : ℕ) (run : List A) (k : ℕ) (z : A) → k < length run
      → sets l i (take (k + 1) run) ≡ set (sets l i (take k run)) (i + k) (get_or run k z)
  sets_more l i run k z h =
      rw (add-one k, take-suc run k z h) (sets_append (take k run) (get_or run k z ∷ []) l i)
      ∙ ap (λ (n : ℕ). set (sets l i (take k run)) (i + n) (get_or run k z)) (length-take-le k run (omega arith))

  -- past its end a stored run changes nothing
  pub drop_sets : (v l : List A) (i n : ℕ) → i + length v ≤ n → drop n (sets l i v) ≡ drop n l
  drop_sets [] l i n h = refl
  drop_sets (a ∷ v) l i n h = drop_sets v (set l i a) (suc i) n (omega arith) ∙ drop-set-lt n l i a (omega arith)

  -- a run stored at the start lies over it
  pub sets_over : (run l : List A) → length run ≤ length l → sets l 0 run ≡ over run l
  sets_over run l h = sets-eq run l 0 (omega arith) ∙ rw zero-add

  -- what was stored is read back
  pub part_sets : (l : List A) (at : ℕ) (v : List A) → at + length v ≤ length l → take (length v) (drop at (sets l at v)) ≡ v
  part_sets l at v h =
      ap (λ (x : List A). take (length v) (drop at x)) (sets-eq v l at h ∙ append_assoc (take at l) v (drop (at + length v) l))
      ∙ ap (take (length v)) (drop_at (take at l) (v ++ drop (at + length v) l) at (length-take-le at l (omega arith)))
      ∙ take-append_seam v (drop (at + length v) l)

  -- the first k elements of memory and one more behind them, laid over it: that one is stored
  pub more_count : (l : List A) (k : ℕ) (b : A) → k ≤ length l → length (take k l ++ (b ∷ [])) ≡ k + 1
  more_count l k b h = length-append (take k l) (b ∷ []) ∙ rw (length-take-le k l h)

  pub more-over : (l : List A) (k : ℕ) (b : A) → k < length l → set l k b ≡ over (take k l ++ (b ∷ [])) l
  more-over l k b h = rw (more_count l k b (omega arith), add-one) (set_split l k b h ∙ sym (append_snoc (take k l) b (drop (suc k) l)))

  -- and nothing changes where they are laid over it alone
  pub same_over : (l : List A) (k : ℕ) → k ≤ length l → l ≡ over (take k l) l
  same_over l k h = rw (length-take-le k l h) (sym (take-append-drop k l))

  -- out is d with the first n elements of `whole` stored from place at on, and rest are the others. The last three fields are facts
  -- on lengths, for `omega` to find.
  pub record Run (d : List A) (at : ℕ) (whole : List A) (n : ℕ) (rest out : List A) : Type 0 where
    pub so_far : List A
    pub split : so_far ++ rest ≡ whole
    pub out_is : out ≡ sets d at so_far
    pub count : length so_far ≡ n
    pub left : n + length rest ≡ length whole
    pub fits : at + length whole ≤ length d
    pub long : length out ≡ length d

  pub run-start : {d : List A} {at : ℕ} {whole rest : List A} → at + length whole ≤ length d → rest ≡ whole → Run d at whole 0 rest d
  run-start {d} {at} {whole} {rest} h e =
      record {
        so_far = [];
        split = e;
        out_is = refl;
        count = refl;
        left = omega (arith, ap length e);
        fits = h;
        long = refl;
      }

  module _ {d : List A} {at : ℕ} {whole : List A} where
    -- one part more: the part v is next, and out' is out with it
    pub run-part : {n m : ℕ} (v : List A) {after rest out out' : List A} → Run d at whole n after out
        → after ≡ v ++ rest → m ≡ n + length v → out' ≡ sets out (at + n) v → Run d at whole m rest out'
    run-part {n} {m} v {after} {rest} {out} {out'} r e k o =
        let w : List A = r.so_far in
        let long : length (w ++ v) ≡ length w + length v = length-append w v in
        let left : length after ≡ length v + length rest = ap length e ∙ length-append v rest in
        let is : out' ≡ sets d at (w ++ v) =
        o ∙ ap₂ (λ (l : List A) (j : ℕ). sets l (at + j) v) r.out_is (sym r.count) ∙ sym (sets_append w v d at) in
        record {
          so_far = w ++ v;
          split = append_assoc w v rest ∙ ap (λ (l : List A). w ++ l) (sym e) ∙ r.split;
          out_is = is;
          count = omega (arith, r);
          left = omega (arith, r);
          fits = r.fits;
          long = ap length is ∙ length-sets d at (w ++ v);
        }

    -- one element more: a is next, and the stored v is a
    pub run-one : {n : ℕ} {v a : A} {after rest out : List A} → Run d at whole n after out → after ≡ a ∷ rest → v ≡ a
        → Run d at whole (n + 1) rest (set out (at + n) v)
    run-one {n} {v} {a} {after} {rest} {out} r e q = run-part (a ∷ []) r e refl (ap (set out (at + n)) q)

    -- the part that is next fits behind what is stored
    pub run_room : {n : ℕ} {out : List A} (v rest : List A) → Run d at whole n (v ++ rest) out → at + n + length v ≤ length out
    run_room v rest r = omega (arith, r, length-append v rest)

    pub run_end : {n : ℕ} {rest out : List A} → Run d at whole n rest out → rest ≡ [] → out ≡ sets d at whole
    run_end {n} {rest} {out} r e =
        r.out_is ∙ ap (sets d at) (sym (append-nil r.so_far) ∙ ap (λ (l : List A). r.so_far ++ l) (sym e) ∙ r.split)

    -- what stands in memory from the place on, as far as it is stored, goes on with the rest
    pub run-front : {n : ℕ} {rest out : List A} → Run d at whole n rest out → take n (drop at out) ++ rest ≡ whole
    run-front {n} {rest} {out} r =
        let stored : take (length r.so_far) (drop at (sets d at r.so_far)) ≡ r.so_far = part_sets d at r.so_far (omega (arith, r)) in
        ap (λ (l : List A). l ++ rest) (ap₂ (λ (k : ℕ) (l : List A). take k (drop at l)) (sym r.count) r.out_is ∙ stored) ∙ r.split

    -- past the end of what is stored the memory is as it was
    pub run_drop : {n : ℕ} {rest out : List A} (i : ℕ) → at + n ≤ i → Run d at whole n rest out → drop i out ≡ drop i d
    run_drop {n} {rest} {out} i h r = ap (drop i) r.out_is ∙ drop_sets r.so_far d at i (omega (arith, r))

    pub run_get : {n : ℕ} {rest out : List A} (z : A) (i : ℕ) → at + n ≤ i → Run d at whole n rest out → get_or out i z ≡ get_or d i z
    run_get {n} {rest} {out} z i h r =
        let first : (l : List A) → get_or (drop i l) 0 z ≡ get_or l i z = λ l. get_or-drop i l 0 z ∙ ap (λ (k : ℕ). get_or l k z) (add-zero i) in
        sym (first out) ∙ ap (λ (l : List A). get_or l 0 z) (run_drop i h r) ∙ first d
