-- The pieces of a capture as a caller hands them on, and what it takes of its memories.
use Prim.Native.Nat.{ℕ, suc, ◌+◌, ◌≤◌, ◌<◌}
use mathlib.Core.Path.{◌≡◌, refl, ap, ap₂, sym, ◌∙◌, subst}
use mathlib.Core.Bool.{Bool, true, false}
use mathlib.Core.List.{List, [], ◌∷◌, ◌++◌, append_assoc}
use native.Mathlib.Omega.{arith}
use lib.Dec.{leb}
use lib.ListN.{length, take, drop, length-drop}
use lib.Seq.{sets}
use borrow.Author.Tests.{le-leb, lt-leb, leb-true, leb-false}
use Rattle.runs.specs.Runs.{Bytes}
use Rattle.runs.proofs.Bytes.{bytes_left, bytes_right, bytes_drop, bytes_append}
use Rattle.runs.proofs.Run.{part_sets}
use Rattle.framing.specs.Receiver.{join}
use Rattle.lister.specs.Feeding.{Lent, end_of}
use Rattle.lister.specs.Claims.{onward, texts, calls_for}

no_more : (n : ℕ) (l : List ℕ) → length l ≤ n → drop n l ≡ []
no_more n l h = empty (drop n l) (omega (arith, length-drop n l))
  where
    empty : (x : List ℕ) → length x ≡ 0 → x ≡ []
    empty [] e = refl
    empty (b ∷ x) e = absurd (omega arith)

leb-suc : (m n : ℕ) → leb (suc m) (1 + n) ≡ leb m n
leb-suc m n = go (leb m n) refl
  where
    go : (b : Bool) → leb m n ≡ b → leb (suc m) (1 + n) ≡ b
    go true e = le-leb (suc m) (1 + n) (omega (arith, leb-true m n e))
    go false e = lt-leb (suc m) (1 + n) (omega (arith, leb-false m n e))

-- what a caller has who goes on from c: all texts, and that of the end
abbrev pub All : List (List ℕ) → Lent → List (List ℕ) → List ℕ
All ms c ps = (texts ms c ps).0 ++ end_of (texts ms c ps).1.0

-- what is left of the pieces after a call on the first that used n bytes
abbrev pub left : ℕ → List ℕ → List (List ℕ) → List (List ℕ)
left n p ps = onward (leb (length p) n) (drop n p) ps

-- a piece takes a call at least, and one that is not empty one for each byte
pub calls_first : (p : List ℕ) (ps : List (List ℕ)) → 1 + calls_for ps ≤ calls_for (p ∷ ps)
calls_first [] ps = omega arith
calls_first (b ∷ p) ps = omega arith

calls_some : (p : List ℕ) (ps : List (List ℕ)) → 0 < length p → calls_for (p ∷ ps) ≡ length p + calls_for ps
calls_some [] ps h = absurd (omega arith)
calls_some (b ∷ p) ps h = refl

module _ (n : ℕ) (p : List ℕ) (ps : List (List ℕ)) where
  pub left_is : join (left n p ps) ≡ drop n p ++ join ps
  left_is = go (leb (length p) n) refl
    where
      go : (b : Bool) → leb (length p) n ≡ b → join (onward b (drop n p) ps) ≡ drop n p ++ join ps
      go true e = ap (λ (l : List ℕ). l ++ join ps) (sym (no_more n p (leb-true (length p) n e)))
      go false e = refl

  pub left_bytes : Bytes (p ++ join ps) → Bytes (join (left n p ps))
  left_bytes y = subst Bytes (sym left_is) (bytes_append (drop n p) (join ps) (bytes_drop n p (bytes_left p (join ps) y)) (bytes_right p (join ps) y))

  -- a call uses up the piece or at least a byte, so the memories are enough for what is left
  pub left_few : (k : ℕ) → calls_for (p ∷ ps) ≤ suc k → (n < length p → 1 ≤ n) → calls_for (left n p ps) ≤ k
  left_few k h u = go (leb (length p) n) refl
    where
      go : (b : Bool) → leb (length p) n ≡ b → calls_for (onward b (drop n p) ps) ≤ k
      go true e = omega (arith, calls_first p ps, h)
      go false e =
          let l = leb-false (length p) n e in
          omega (arith, u l, h, calls_some p ps (omega arith), calls_some (drop n p) ps (omega (arith, length-drop n p)), length-drop n p)

  -- behind the letter
  pub left-suc : (letter : ℕ) → left (1 + n) (letter ∷ p) ps ≡ left n p ps
  left-suc letter =
      let e : 1 + n ≡ suc n = omega arith in
      ap₂ (λ (b : Bool) (l : List ℕ). onward b l ps) (leb-suc (length p) n) (ap (λ (k : ℕ). drop k (letter ∷ p)) e)

-- what a caller takes of a memory in which text was stored at the start, before what follows
pub taken : (m t x y : List ℕ) → length t ≤ length m → (take (length t) (sets m 0 t) ++ x) ++ y ≡ t ++ (x ++ y)
taken m t x y h = ap (λ (l : List ℕ). (l ++ x) ++ y) (part_sets m 0 t (omega arith)) ∙ append_assoc t x y
