-- What wire bytes stand for, as the loop reads them: a run of bytes that mean themselves, a hidden byte, the end.
use Rattle.std.proofs.Common.{◌≡◌, ℕ, zero, suc, ◌+◌, ◌-◌, ◌≤◌, ◌<◌, min, Bool, true, false, cond, List, [], ◌∷◌, ◌++◌, length, take, drop, set, Some, None, refl, sym, ap, ap₂, subst, ◌∙◌, arith, zero-add, append_assoc, take-append-drop, length-take, length-drop, length-take-le}
use native.Mathlib.Nat.{sub-zero, suc-sub-suc}
use lib.Seq.{sets, sets-eq, drop-drop}
use borrow.Rule.Slice.PartMut.{put_mid}
use mathlib.Core.Bool.{false≢true}
use Rattle.runs.specs.Runs.{between, before}
use Rattle.runs.proofs.Cases.{by_test}
use Rattle.runs.proofs.Bytes.{part_rest}
use Rattle.runs.proofs.Before.{first-not, before_within, before_rest}
use Rattle.runs.proofs.Run.{Run, run-start, run-part, run_end}
use Rattle.escape.specs.Code.{Meaning, byte, waits, start, end, wrong, Code, read_first, read_second, unhide_up_to}
use Rattle.escape.specs.Lawful.{Coded, alone, pair, Lawful}
use Rattle.escape.specs.Form.{run_of, hidden_by, hidden_first}
use Rattle.escape.proofs.Lawful.{most_read}

-- a byte from low to high is hidden, and read by no byte alone; every other means itself
pub record Splits (code : Code) (low high : ℕ) : Type 0 where
  pub outside : (w : ℕ) → between low high w ≡ false → code.plain w ≡ byte w
  pub inside : (w b : ℕ) → between low high w ≡ true → code.plain w ≡ byte b → ⊥

coded_alone : (code : Code) (b : ℕ) (run : List ℕ) → Coded code b run → run ≡ b ∷ [] → code.plain b ≡ byte b
coded_alone code b _ (alone p) e = p
coded_alone code b _ (pair e x p a) h = let two : ◌≡◌ {A = ℕ} 2 1 = ap length h in absurd (omega arith)

pub splits : (code : Code) (low high top : ℕ) → Lawful code → ((b : ℕ) → code.hide_byte b ≡ run_of low high top b) → Splits code low high
splits code low high top lawful hides =
    record {
      outside = λ w e. coded_alone code w (code.hide_byte w) (lawful.coded w) (hides w ∙ rw e);
      inside = λ w b e p. by_test (λ run. run ≡ w ∷ [] → ⊥) (between low high b)
          (λ t h. let two : ◌≡◌ {A = ℕ} 2 1 = ap length h in omega arith)
          (λ t h. let same : b ≡ w = cc in false≢true (sym t ∙ ap (between low high) same ∙ e))
          (sym (hides b) ∙ lawful.plain_byte w b p);
    }

-- what is read, with a part of so many wire bytes before it
pub record Behind (part : List ℕ) (n : ℕ) (rest all : List ℕ × ℕ) : Type 0 where
  pub bytes : all.0 ≡ part ++ rest.0
  pub used : all.1 ≡ n + rest.1

first_is : (t : Bool) (n : ℕ) → cond t 0 (suc n) ≡ 0 → t ≡ true
first_is true n e = refl
first_is false n e = absurd (omega (arith, e))

first_less : (t : Bool) (m n : ℕ) → suc n ≤ cond t 0 (suc m) → n ≤ m
first_less true m n h = absurd (omega arith)
first_less false m n h = omega arith

rejoin : (n k : ℕ) (l : List ℕ) → n ≤ k → drop n (take k l) ++ drop k l ≡ drop n l
rejoin zero k l h = take-append-drop k l
rejoin (suc n) zero l h = absurd (omega arith)
rejoin (suc n) (suc k) [] h = refl
rejoin (suc n) (suc k) (x ∷ l) h = rejoin n k l (omega arith)

-- a part of a memory, with a run stored at its start, put back
pub put_back : (i k : ℕ) (l run : List ℕ) → i + k ≤ length l → length run ≤ k → put_mid i k l (sets (take k (drop i l)) 0 run) ≡ sets l i run
put_back i k l run h few =
    let part = take k (drop i l) in
    let size : length part ≡ k = length-take-le k (drop i l) (omega (arith, length-drop i l)) in
    let start : sets part 0 run ≡ run ++ drop (length run) part = sets-eq run part 0 (omega (arith, size, few)) ∙ rw zero-add in
    ap (put_mid i k l) start
    ∙ ap (λ (x : List ℕ). take i l ++ x) (append_assoc run (drop (length run) part) (drop k (drop i l))
    ∙ ap (λ (x : List ℕ). run ++ x) (rejoin (length run) k (drop i l) few ∙ drop-drop (length run) i l))
    ∙ sym (append_assoc (take i l) run (drop (i + length run) l)) ∙ sym (sets-eq run l i (omega (arith, h, few)))

-- a hidden byte, by what the two wire bytes mean
pair_by : (m k : Meaning) (b : ℕ) → hidden_by m k ≡ Some b → (m ≡ waits) × (k ≡ byte b)
pair_by waits (byte c) b h = (refl, cc)
pair_by waits waits b h = absurd (cc)
pair_by waits start b h = absurd (cc)
pair_by waits end b h = absurd (cc)
pair_by waits wrong b h = absurd (cc)
pair_by (byte c) k b h = absurd (cc)
pair_by start k b h = absurd (cc)
pair_by end k b h = absurd (cc)
pair_by wrong k b h = absurd (cc)

none_by : (m : Meaning) (behind : List ℕ × ℕ) → hidden_by waits m ≡ None → read_second m behind ≡ ([], 0)
none_by (byte b) behind h = absurd (cc)
none_by waits behind h = refl
none_by start behind h = refl
none_by end behind h = refl
none_by wrong behind h = refl

ends_by : (m : Meaning) (behind both : List ℕ × ℕ) → ((b : ℕ) → m ≡ byte b → ⊥) → (m ≡ waits → both ≡ ([], 0)) → read_first m behind both ≡ ([], 0)
ends_by (byte b) behind both n k = absurd (n b refl)
ends_by waits behind both n k = k refl
ends_by start behind both n k = refl
ends_by end behind both n k = refl
ends_by wrong behind both n k = refl

module _ (code : Code) where
  plain-first : (r w : ℕ) (wire : List ℕ) → code.plain w ≡ byte w → Behind (w ∷ []) 1 (unhide_up_to code r wire) (unhide_up_to code (suc r) (w ∷ wire))
  unfolding unhide_up_to
  plain-first zero w [] e = rw e (record { bytes = refl; used = refl })
  plain-first (suc r) w [] e = rw e (record { bytes = refl; used = refl })
  plain-first r w (x ∷ wire) e = rw e (record { bytes = refl; used = refl })

  -- a hidden byte
  pub pair_first : (r b : ℕ) (wire : List ℕ) → hidden_first code wire ≡ Some b
      → (2 ≤ length wire) × Behind (b ∷ []) 2 (unhide_up_to code r (drop 2 wire)) (unhide_up_to code (suc r) wire)
  unfolding unhide_up_to
  pair_first r b [] h = absurd (cc)
  pair_first r b (w ∷ []) h = absurd (cc)
  pair_first r b (w ∷ x ∷ wire) h =
      let means = pair_by (code.plain w) (code.after x) b h in
      (omega arith, rw (means.0, means.1) (record { bytes = refl; used = refl }))

  -- what the loop keeps: count bytes are stored and i wire bytes read, and what is read from there on makes up the whole
  pub record Reading (wire d : List ℕ) (most : ℕ) (out : List ℕ) (count i : ℕ) : Type 0 where
    pub some : count ≤ most
    pub there : i ≤ length wire
    pub stored : Run d 0 (unhide_up_to code most wire).0 count (unhide_up_to code (most - count) (drop i wire)).0 out
    pub passed : i + (unhide_up_to code (most - count) (drop i wire)).1 ≡ (unhide_up_to code most wire).1

  module _ (wire d : List ℕ) (most : ℕ) where
    pub reading-start : most ≤ length d → Reading wire d most d 0 0
    reading-start h =
        let all : most - 0 ≡ most = omega arith in
        record {
          some = omega arith;
          there = omega arith;
          stored = run-start (omega (arith, most_read code most wire)) (rw all);
          passed = rw all (zero-add (unhide_up_to code most wire).1);
        }

    -- a part more, of n bytes and m wire bytes
    reading-more : (out out' part : List ℕ) (count i m : ℕ) → Reading wire d most out count i → count + length part ≤ most → i + m ≤ length wire
        → Behind part m (unhide_up_to code (most - count - length part) (drop (i + m) wire)) (unhide_up_to code (most - count) (drop i wire))
        → out' ≡ sets out count part → Reading wire d most out' (count + length part) (i + m)
    reading-more out out' part count i m g h k b e =
        let less : most - count - length part ≡ most - (count + length part) = omega arith in
        record {
          some = h;
          there = k;
          stored = run-part part g.stored (b.bytes ∙ ap (λ (r : ℕ). part ++ (unhide_up_to code r (drop (i + m) wire)).0) less) refl
              (e ∙ ap (λ (k : ℕ). sets out k part) (sym (zero-add count)));
          passed = omega (arith, g.passed, b.used, ap (λ (r : ℕ). (unhide_up_to code r (drop (i + m) wire)).1) less);
        }

    -- a hidden byte
    pub reading_pair : (out : List ℕ) (count i b : ℕ) → Reading wire d most out count i → count < most → hidden_first code (drop i wire) ≡ Some b
        → Reading wire d most (set out count b) (count + 1) (i + 2)
    reading_pair out count i b g h e =
        let left : suc (most - count - 1) ≡ most - count = omega arith in
        let p = pair_first (most - count - 1) b (drop i wire) e in
        reading-more out (set out count b) (b ∷ []) count i 2 g (omega arith) (omega (arith, p.0, length-drop i wire))
        (rw (left, drop-drop 2 i wire) at p.1) refl

    -- nothing more is read
    pub reading_end : (out : List ℕ) (count i : ℕ) → Reading wire d most out count i → unhide_up_to code (most - count) (drop i wire) ≡ ([], 0)
        → (count ≡ length (unhide_up_to code most wire).0) × ((i ≡ (unhide_up_to code most wire).1) × (out ≡ sets d 0 (unhide_up_to code most wire).0))
    reading_end out count i g e = (
      omega (arith, g.stored.left, ap (λ (u : List ℕ × ℕ). length u.0) e),
      (omega (arith, g.passed, ap (λ (u : List ℕ × ℕ). u.1) e), run_end g.stored (ap (λ (u : List ℕ × ℕ). u.0) e)),
    )

module _ (code : Code) (low high : ℕ) (split : Splits code low high) where
  -- bytes that mean themselves
  pub plain-run : (n r : ℕ) (wire : List ℕ) → n ≤ before low high wire → n ≤ r
      → Behind (take n wire) n (unhide_up_to code (r - n) (drop n wire)) (unhide_up_to code r wire)
  unfolding before
  plain-run zero r wire h l = rw sub-zero (record { bytes = refl; used = sym (zero-add (unhide_up_to code r wire).1) })
  plain-run (suc n) r [] h l = absurd (omega arith)
  plain-run (suc n) zero (w ∷ wire) h l = absurd (omega arith)
  plain-run (suc n) (suc r) (w ∷ wire) h l =
      let t = between low high w in
      let m = before low high wire in
      let one = plain-first code r w wire (split.outside w (first-not t m (omega arith))) in
      let more = plain-run n r wire (first_less t m n h) (omega arith) in
      rw suc-sub-suc (record { bytes = one.bytes ∙ ap (◌∷◌ w) more.bytes; used = one.used ∙ rw more.used (omega arith) })

  -- neither: nothing more is read
  pub stops : (r : ℕ) (wire : List ℕ) → before low high wire ≡ 0 → hidden_first code wire ≡ None → unhide_up_to code r wire ≡ ([], 0)
  unfolding before unhide_up_to
  stops zero wire e h = refl
  stops (suc r) [] e h = refl
  stops (suc r) (w ∷ []) e h = ends_by (code.plain w) ([], 0) ([], 0) (λ b. split.inside w b (first_is (between low high w) 0 e)) (λ _. refl)
  stops (suc r) (w ∷ x ∷ wire) e h =
      ends_by (code.plain w) _ _ (λ b. split.inside w b (first_is (between low high w) (before low high (x ∷ wire)) e))
      (λ m. none_by (code.after x) (unhide_up_to code r wire) (subst (λ k. hidden_by k (code.after x) ≡ None) m h))

  -- bytes that mean themselves
  reading-run : (wire d : List ℕ) (most : ℕ) (out out' : List ℕ) (count i n : ℕ) → Reading code wire d most out count i → n ≤ most - count
      → n ≤ before low high (drop i wire) → out' ≡ sets out count (take n (drop i wire)) → Reading code wire d most out' (count + n) (i + n)
  reading-run wire d most out out' count i n g h few e =
      let long : length (take n (drop i wire)) ≡ n = length-take-le n (drop i wire) (omega (arith, few, before_within low high (drop i wire))) in
      let there : i + n ≤ length wire = omega (arith, few, before_within low high (drop i wire), length-drop i wire) in
      let part = take n (drop i wire) in
      let all = unhide_up_to code (most - count) (drop i wire) in
      let run : Behind part n (unhide_up_to code (most - count - length part) (drop (i + n) wire)) all =
      subst (λ (x : List ℕ × ℕ). Behind part n x all) (ap₂ (λ (k : ℕ) (l : List ℕ). unhide_up_to code (most - count - k) l) (sym long) (drop-drop n i wire))
      (plain-run n (most - count) (drop i wire) few h) in
      subst (λ (k : ℕ). Reading code wire d most out' (count + k) (i + n)) long
      (reading-more code wire d most out out' part count i n g (omega (arith, long, g.some)) there run e)

  -- as `copy_before` stores them into the rest of out; where room is left, what follows is no such byte
  pub reading_copied : (wire d : List ℕ) (out part : List ℕ) (count i n top : ℕ) → Reading code wire d (length d) out count i → length out ≤ top
      → n ≡ min (min top (length (take (length out - count) (drop count out)) - 0)) (before low high (take (length wire - i) (drop i wire)))
      → part ≡ sets (take (length out - count) (drop count out)) 0 (take n (take (length wire - i) (drop i wire)))
      → Reading code wire d (length d) (put_mid count (length out - count) out part) (count + n) (i + n)
      × (count + n < length d → before low high (drop (i + n) wire) ≡ 0)
  reading_copied wire d out part count i n top g fits few put =
      let rest = part_rest wire i in
      let long : length out ≡ length d = g.stored.long in
      let size : length (take (length out - count) (drop count out)) ≡ length out - count = ap length (part_rest out count) ∙ length-drop count out in
      let n_is : n ≡ min (length d - count) (before low high (drop i wire)) = omega (arith, few, ap (before low high) rest, size, fits, long, g.some) in
      let run : length (take n (drop i wire)) ≤ length out - count = omega (arith, n_is, long, length-take n (drop i wire)) in
      let back : put_mid count (length out - count) out part ≡ sets out count (take n (drop i wire)) =
      ap (put_mid count (length out - count) out) (put ∙ ap (λ l. sets (take (length out - count) (drop count out)) 0 (take n l)) rest)
      ∙ put_back count (length out - count) out (take n (drop i wire)) (omega (arith, g.some, long)) run in (
        reading-run wire d (length d) out _ count i n g (omega (arith, n_is)) (omega (arith, n_is)) back,
        λ less. let all : n ≡ before low high (drop i wire) = omega (arith, n_is, less) in
            ap (before low high) (sym (drop-drop n i wire)) ∙ ap (λ (k : ℕ). before low high (drop k (drop i wire))) all ∙ before_rest low high (drop i wire),
      )
