-- What a writer answers and leaves in lent memory, and what a list of its calls puts on the wire.
use Rattle.std.specs.Prelude.{ℕ, Bool, cond, List, [], ◌∷◌, ◌++◌, length, take, ◌==◌, nat_le}
use Rattle.std.proofs.lemmas.List.Edits.{sets}
use Rattle.framing.specs.Answer.{Outcome, done, refused}
use Rattle.framing.specs.Tests.{write_fault}

-- a writer of frames, or of records: refused with 3 or 2, and the memory as it came; or the frame at the start of the memory, and nothing after it
abbrev pub writes : {M : Type 0} → (M → Bool) → (M → List ℕ) → M → List ℕ → Outcome ℕ × List ℕ
writes ok frame m memory =
    let fault = write_fault (ok m) (nat_le (length (frame m)) (length memory)) in
    cond (fault == 0) (done (length (frame m)), sets memory 0 (frame m)) (refused fault, memory)

-- a call of a writer: the message, and the memory lent
pub record Call (M : Type 0) : Type 0 where
  pub message : M
  pub memory : List ℕ

-- the frames of a list of messages, end to end
abbrev pub frames : {M : Type 0} → (M → List ℕ) → List M → List ℕ
frames frame [] = []
frames frame (m ∷ ms) = frame m ++ frames frame ms

-- a call that is not refused adds its message ..
abbrev pub keeps : {M : Type 0} → M → Outcome ℕ → List M → List M
keeps m (done n) ms = m ∷ ms
keeps m (refused n) ms = ms

-- .. and the frame's bytes, the first ones of its memory
abbrev pub leaves : List ℕ → Outcome ℕ → List ℕ → List ℕ
leaves memory (done n) bs = take n memory ++ bs
leaves memory (refused n) bs = bs

-- over what any writer answers and leaves
module _ {M : Type 0} (write : M → List ℕ → Outcome ℕ × List ℕ) where
  -- the messages that the calls keep
  abbrev pub kept : List (Call M) → List M
  kept [] = []
  kept (c ∷ cs) = keeps c.message (write c.message c.memory).0 (kept cs)

  -- the bytes that they write
  abbrev pub wire : List (Call M) → List ℕ
  wire [] = []
  wire (c ∷ cs) = leaves (write c.message c.memory).1 (write c.message c.memory).0 (wire cs)
