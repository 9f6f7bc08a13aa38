-- What a call that stores a run answers and leaves, for its callers.
use Rattle.std.proofs.Common.{◌≡◌, ℕ, ◌+◌, ◌<◌, ◌≤◌, Bool, true, false, leb, List, ◌++◌, length, take, drop, sym, refl, ap, ◌∙◌, append_assoc, arith, le-leb, leb-false, leb-true}
use mathlib.Core.Bool.{false≢true}
use lib.Seq.{sets, sets-eq, drop-drop}
use borrow.Rule.Slice.PartMut.{put_mid}
use borrow.Author.Tests.{lt-leb}
use Rattle.framing.specs.Answer.{Outcome, done, refused, count_of, stored_at}
use Rattle.framing.specs.Writer.{writes}
use Rattle.framing.proofs.Tests.{by_two}

-- a run copied into k places of memory from `at` on, where `part` is what they hold then
pub part_copied : (memory run part : List ℕ) (at k : ℕ) → at + k ≤ length memory → k ≡ length run → part ≡ run → put_mid at k memory part ≡ sets memory at run
part_copied memory run part at k h e f =
    rw (e, f)
    (ap (λ (l : List ℕ). take at memory ++ (run ++ l)) (drop-drop (length run) at memory)
    ∙ sym (append_assoc (take at memory) run (drop (at + length run) memory)) ∙ sym (sets-eq run memory at (omega arith)))

module _ (run memory : List ℕ) (at : ℕ) where
  pub stored_done : at + length run ≤ length memory → stored_at run memory at ≡ (done (length run), sets memory at run)
  unfolding stored_at
  stored_done h = rw (le-leb (at + length run) (length memory) h)

  pub stored_refused : length memory < at + length run → stored_at run memory at ≡ (refused 2, memory)
  unfolding stored_at
  stored_refused h = rw (lt-leb (at + length run) (length memory) h)

  -- what such a call answers and leaves where the run fits, and what a caller that stores the run itself answers
  pub stored_fits : (after : List ℕ) (o : Outcome ℕ) → (o, after) ≡ stored_at run memory at → at + length run ≤ length memory
      → (count_of o ≡ length run) × (after ≡ sets memory at run)
  stored_fits after o e h =
      let d : ◌≡◌ {A = Outcome ℕ × List ℕ} (o, after) (done (length run), sets memory at run) = e ∙ stored_done h in
      (ap (λ (w : Outcome ℕ × List ℕ). count_of w.0) d, ap (λ (w : Outcome ℕ × List ℕ). w.1) d)

  pub stored_so : (after : List ℕ) (n : ℕ) → n ≡ length run → at + n ≤ length memory → after ≡ sets memory at run → (done n, after) ≡ stored_at run memory at
  stored_so after n e h a = (λ i. (done (e i), a i)) ∙ sym (stored_done (omega arith))

-- a writer: what it answers where it refuses, and by what is stored where it does not
module _ {M : Type 0} (ok : M → Bool) (frame : M → List ℕ) (m : M) (memory : List ℕ) where
  pub by_writer : (P : Outcome ℕ × List ℕ → Type 0) → (ok m ≡ false → P (refused 3, memory)) → (ok m ≡ true → length memory < length (frame m) → P (refused 2, memory))
      → (ok m ≡ true → length (frame m) ≤ length memory → P (done (length (frame m)), sets memory 0 (frame m))) → P (writes ok frame m memory)
  by_writer P h k l =
      by_two P (ok m) (leb (length (frame m)) (length memory)) 3 2 (done (length (frame m)), sets memory 0 (frame m)) (λ n. (refused n, memory)) refl refl h
      (λ o e. k o (leb-false _ _ e)) (λ o e. l o (leb-true _ _ e))

  pub writes_stored : ok m ≡ true → writes ok frame m memory ≡ stored_at (frame m) memory 0
  writes_stored o =
      by_writer (λ w. w ≡ stored_at (frame m) memory 0) (λ e. absurd (false≢true (sym e ∙ o))) (λ _ l. sym (stored_refused (frame m) memory 0 (omega arith)))
      (λ _ l. sym (stored_done (frame m) memory 0 (omega arith)))

  -- once it is known that the message may be sent: what a writer answers that stored the frame, and one that found too little room
  pub writes_done : (after : List ℕ) (n : ℕ) → ok m ≡ true → n ≡ length (frame m) → n ≤ length memory → after ≡ sets memory 0 (frame m)
      → (done n, after) ≡ writes ok frame m memory
  writes_done after n o e h a = stored_so (frame m) memory 0 after n e (omega arith) a ∙ sym (writes_stored o)

  pub writes_short : ok m ≡ true → length memory < length (frame m) → (refused 2, memory) ≡ writes ok frame m memory
  writes_short o h = sym (stored_refused (frame m) memory 0 (omega arith)) ∙ sym (writes_stored o)
