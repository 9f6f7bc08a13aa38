-- The laws of words: where one begins and ends, and what its characters stand for.
use Prim.Native.Nat.{ℕ, zero, suc, ◌+◌, ◌*◌, ◌-◌, ◌/◌, ◌≤◌, ◌<◌, min}
use mathlib.Core.Path.{◌≡◌, refl, ap, sym, ◌∙◌}
use mathlib.Core.List.{List, [], ◌∷◌}
use mathlib.Core.Bool.{Bool, true, false, ◌&&◌}
use native.Mathlib.Omega.{arith}
use lib.Dec.{leb}
use lib.ListN.{length, take, drop, get_or, length-take, drop_of_length-le}
use lib.Seq.{drop-length, drop-drop, get_or-take}
use borrow.Author.Tests.{ne_eqb, le-leb, lt-leb, leb-true}
use Rattle.runs.proofs.Bytes.{drop-next}
use Rattle.vector_text.specs.Laid.{run_byte, same_byte, laid}
use Rattle.vector_text.specs.Words.{index_of, words_from, word_of, first_byte, with_digit, decimal_from, parsed_decimal, hex_of, unhexed, fitted, given_by}

-- behind the end of a line there is no word
words_nil : (k : ℕ) → words_from k [] ≡ []
unfolding words_from
words_nil zero = refl
words_nil (suc k) = words_nil k

module _ (line : List ℕ) (at end : ℕ) (h : at ≤ length line) (e : end ≡ at + index_of 32 (drop at line)) where
  -- how far the next space is
  space : index_of 32 (drop at line) ≡ end - at
  space = omega (arith, e)

  pub word_is : (k : ℕ) → drop at line ≡ words_from k line → take (end - at) (drop at line) ≡ word_of k line
  unfolding word_of
  word_is k s = ap (λ (n : ℕ). take n (drop at line)) (sym space) ∙ ap (λ (w : List ℕ). take (index_of 32 w) w) s

  module _ (k : ℕ) where
    -- no space is left
    pub words_end : (left : ℕ) → 0 < left → end ≡ length line → words_from left (drop at line) ≡ words_from k line → drop end line ≡ words_from k line
    unfolding words_from
    words_end zero l q i = absurd (omega arith)
    words_end (suc n) l q i =
        let none : drop (suc (index_of 32 (drop at line))) (drop at line) ≡ [] = ap (λ (m : ℕ). drop (suc m) (drop at line)) space ∙ drop-drop (suc (end - at)) at line ∙ drop_of_length-le line {i = at + suc (end - at)} (omega arith) in
        ap (λ (m : ℕ). drop m line) q ∙ drop-length line ∙ sym (words_nil n) ∙ ap (words_from n) (sym none) ∙ i

    -- a space is passed
    pub words_next : (left : ℕ) → 0 < left → words_from left (drop at line) ≡ words_from k line → words_from (left - 1) (drop (end + 1) line) ≡ words_from k line
    unfolding words_from
    words_next zero l i = absurd (omega arith)
    words_next (suc n) l i =
        let place : at + suc (end - at) ≡ end + 1 = omega arith in
        let behind : drop (suc (index_of 32 (drop at line))) (drop at line) ≡ drop (end + 1) line = ap (λ (m : ℕ). drop (suc m) (drop at line)) space ∙ drop-drop (suc (end - at)) at line ∙ ap (λ (m : ℕ). drop m line) place in
        let one : suc n - 1 ≡ n = omega arith in
        rw one (ap (words_from n) (sym behind) ∙ i)

-- no word is left to pass
pub words_none : (line : List ℕ) (at k left : ℕ) → left ≤ 0 → words_from left (drop at line) ≡ words_from k line → drop at line ≡ words_from k line
unfolding words_from
words_none line at k zero h e = e
words_none line at k (suc n) h e = absurd (omega arith)

-- a word that is not there begins with no byte
pub first_none : (word : List ℕ) → length word ≤ 0 → 0 ≡ first_byte word
first_none [] h = refl
first_none (b ∷ bs) h = absurd (omega arith)

-- whether a byte lies in a range
module _ (low high b : ℕ) where
  pub lies_in : low ≤ b → b ≤ high → leb low b && leb b high ≡ true
  lies_in l h = rw (le-leb low b l) (le-leb b high h)

  pub lies_out : (low ≤ b → b ≤ high → ⊥) → leb low b && leb b high ≡ false
  lies_out n = go (leb low b) (leb b high) refl refl
    where
      go : (x y : Bool) → leb low b ≡ x → leb b high ≡ y → x && y ≡ false
      go true true e f = absurd (n (leb-true low b e) (leb-true b high f))
      go true false e f = refl
      go false y e f = refl

module _ (word : List ℕ) where
  pub decimal_end : (n i t : ℕ) → length word ≤ i → decimal_from n (drop i word) ≡ t → n ≡ t
  unfolding decimal_from
  decimal_end n i t h q = sym (ap (decimal_from n) (drop_of_length-le word h)) ∙ q

  pub decimal-next : (n v i t : ℕ) → i < length word → v ≡ with_digit n (get_or word i 0) → decimal_from n (drop i word) ≡ t → decimal_from v (drop (i + 1) word) ≡ t
  unfolding decimal_from
  decimal-next n v i t h e q =
      ap (λ (m : ℕ). decimal_from m (drop (i + 1) word)) e ∙ sym (ap (decimal_from n) (drop-next word i h)) ∙ q

length-unhexed : (word : List ℕ) → length (unhexed word) ≡ length word / 2
unfolding unhexed
length-unhexed [] = refl
length-unhexed (a ∷ []) = refl
length-unhexed (a ∷ b ∷ bs) = omega (arith, length-unhexed bs)

unhexed-at : (word : List ℕ) (n : ℕ) → 2 * n + 1 < length word → get_or (unhexed word) n 0 ≡ hex_of (get_or word (2 * n) 0) * 16 + hex_of (get_or word (2 * n + 1) 0)
unfolding unhexed
unhexed-at [] n h = absurd (omega arith)
unhexed-at (a ∷ []) n h = absurd (omega arith)
unhexed-at (a ∷ b ∷ bs) zero h = refl
unhexed-at (a ∷ b ∷ bs) (suc n) h =
    let place : 2 * suc n ≡ suc (suc (2 * n)) = omega arith in
    let next : 2 * suc n + 1 ≡ suc (suc (2 * n + 1)) = omega arith in
    rw (next, place) (unhexed-at bs n (omega arith))

-- what a word stands for, by its first letter
module _ (word frame : List ℕ) (room : ℕ) where
  pub given-frame : first_byte word ≡ 102 → given_by word frame room ≡ fitted room frame
  unfolding given_by
  given-frame h = rw h

  pub given-run : first_byte word ≡ 114 → given_by word frame room ≡ laid run_byte (min (parsed_decimal word) room)
  unfolding given_by
  given-run h = rw h

  pub given-same : first_byte word ≡ 115 → given_by word frame room ≡ laid same_byte (min (parsed_decimal word) room)
  unfolding given_by
  given-same h = rw h

  pub given-hex : (first_byte word ≡ 102 → ⊥) → (first_byte word ≡ 114 → ⊥) → (first_byte word ≡ 115 → ⊥) → given_by word frame room ≡ take room (unhexed word)
  unfolding given_by
  given-hex f r s = simp (ne_eqb (first_byte word) 102 f, ne_eqb (first_byte word) 114 r, ne_eqb (first_byte word) 115 s)

-- the bytes of a word in hex, as far as there is room
module _ (word : List ℕ) (room : ℕ) where
  pub whole_length : length (take room (unhexed word)) ≡ min (length word / 2) room
  whole_length = length-take room (unhexed word) ∙ omega (arith, length-unhexed word)

  pub whole-at : (n : ℕ) → n < min (length word / 2) room → get_or (take room (unhexed word)) n 0 ≡ hex_of (get_or word (2 * n) 0) * 16 + hex_of (get_or word (2 * n + 1) 0)
  whole-at n h = get_or-take room (unhexed word) n 0 (omega arith) ∙ unhexed-at word n (omega arith)

-- a run that fits, and one that does not
module _ (room : ℕ) (run : List ℕ) where
  pub fitted-all : length run ≤ room → fitted room run ≡ run
  fitted-all h = rw (le-leb (length run) room h)

  pub fitted_none : room < length run → fitted room run ≡ []
  fitted_none h = rw (lt-leb (length run) room h)
