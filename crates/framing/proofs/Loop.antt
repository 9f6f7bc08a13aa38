-- The loop of a receiver over a piece: what the whole call gives is what is left to do gives, behind the bytes passed. `Passed` is its invariant.
use Rattle.std.proofs.Common.{◌≡◌, ℕ, ◌+◌, ◌<◌, true, false, List, length, get_or, drop, sym, ap, ◌∙◌, true≢false, add-zero}
use mathlib.Core.Bool.{false≢true}
use mathlib.Core.Option.{Option, none, some}
use lib.Seq.{drop-length}
use Rattle.runs.proofs.Bytes.{drop-next}
use Rattle.framing.specs.Receiver.{later, stop, feed}
use Rattle.framing.specs.Link.{Told, nothing, is_event}
use Rattle.framing.specs.Call.{reported}
use Rattle.framing.specs.Passing.{Passed}
use Rattle.framing.proofs.Feed.{later-zero, later-later}

module _ {S E : Type 0} (step : S × List ℕ → ℕ → (S × List ℕ) × Option E) where
  pub passed_none : (c : S × List ℕ) (piece : List ℕ) → Passed step c piece c 0
  passed_none c piece = sym (later-zero (feed step c piece))

  -- a byte more, from c
  module _ (c₀ c : S × List ℕ) (piece : List ℕ) (i : ℕ) (h : i < length piece) (passed : Passed step c₀ piece c i) where
    turn : feed step c₀ piece
        ≡ later i (stop (step c (get_or piece i 0)).0 (step c (get_or piece i 0)).1 (feed step (step c (get_or piece i 0)).0 (drop (i + 1) piece)))
    turn = passed ∙ ap (λ (bs : List ℕ). later i (feed step c bs)) (drop-next piece i h)

    -- that makes no event and leads to d
    pub passed-more : (d : S × List ℕ) → d ≡ (step c (get_or piece i 0)).0 → (step c (get_or piece i 0)).1 ≡ none → Passed step c₀ piece d (i + 1)
    passed-more d e h = rw (e) (turn ∙ rw h (later-later i 1 _))

    -- that makes one
    ends : (e : E) → (step c (get_or piece i 0)).1 ≡ some e
        → feed step c₀ piece ≡ record { event = some e; used = i + 1; after = (step c (get_or piece i 0)).0 }
    ends e h = turn ∙ rw h

  -- what is told of it
  module _ {N : Type 0} (told : Option E → Told N) (silent : told none ≡ nothing) (loud : (e : E) → is_event (told (some e)) ≡ true) where
    pub told_none : (o : Option E) → is_event (told o) ≡ false → o ≡ none
    told_none none h = λ _. none
    told_none (some e) h = absurd (true≢false (sym (loud e) ∙ h))

    told_some : (o : Option E) → is_event (told o) ≡ true → (e : E) × (o ≡ some e)
    told_some none h = absurd (false≢true (sym (ap is_event silent) ∙ h))
    told_some (some e) h = (e, λ _. some e)

    -- the byte that makes an event ends the call
    pub passed_event : (c₀ c d : S × List ℕ) (piece : List ℕ) (i : ℕ) (v : Told N) → i < length piece → Passed step c₀ piece c i
        → v ≡ told (step c (get_or piece i 0)).1 → d ≡ (step c (get_or piece i 0)).0 → is_event v ≡ true
        → (v, i + 1, d) ≡ reported told (feed step c₀ piece)
    passed_event c₀ c d piece i v h passed tells leaves e =
        let w = told_some (step c (get_or piece i 0)).1 (ap is_event (sym tells) ∙ e) in
        let tells_is : v ≡ told (some w.0) = tells ∙ ap told w.1 in
        (λ j. (tells_is j, i + 1, leaves j)) ∙ sym (ap (reported told) (ends c₀ c piece i h passed w.0 w.1))

    -- and so does the end of the piece
    pub passed-all : (c₀ c : S × List ℕ) (piece : List ℕ) (i : ℕ) → i ≡ length piece → Passed step c₀ piece c i
        → (nothing, i, c) ≡ reported told (feed step c₀ piece)
    passed-all c₀ c piece i h passed =
        let ends : feed step c₀ piece ≡ record { event = none; used = i; after = c } = passed ∙ rw (h, drop-length, add-zero) in
        (λ j. (sym silent j, i, c)) ∙ sym (ap (reported told) ends)
