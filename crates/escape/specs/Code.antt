-- Codes that hide bytes between the marks of a frame, so that no mark stands among them.
use Rattle.std.specs.Prelude.{ℕ, zero, suc, ◌+◌, ◌-◌, min, Bool, cond, List, [], ◌∷◌, length}
use Rattle.runs.specs.Runs.{each}
use Rattle.escape.specs.declared.Meaning.{Meaning as Told}
use Rattle.escape.specs.declared.Meaning.TheVariants as told

-- what a wire byte means: it completes a byte, it is half of an escape, it is (or completes) a mark, or it is wrongly coded
pub data Meaning : Type 0 where
  byte : ℕ → Meaning
  waits : Meaning
  start : Meaning
  end : Meaning
  wrong : Meaning

-- the meaning that each case of the code's enum tells
abbrev pub meaning_of : Told → Meaning
meaning_of (told.Byte b) = byte b
meaning_of told.Waits = waits
meaning_of told.Start = start
meaning_of told.End = end
meaning_of told.Wrong = wrong

-- a code: the run that hides a byte; what a wire byte means between the marks; and what it means after half an escape
pub record Code : Type 0 where
  pub hide_byte : ℕ → List ℕ
  pub plain : ℕ → Meaning
  pub after : ℕ → Meaning

-- what a wire byte means, with half an escape waiting or not
abbrev pub meaning : Code → Bool → ℕ → Meaning
meaning code waiting w = cond waiting (code.after w) (code.plain w)

-- bytes as a code hides them: each byte is replaced by its run
abbrev pub hide : Code → List ℕ → List ℕ
hide code bytes = each code.hide_byte bytes

-- what is read where the first wire byte means this: with a byte, it stands before what is read behind it; with half an escape, what both halves give
abbrev pub read_first : Meaning → List ℕ × ℕ → List ℕ × ℕ → List ℕ × ℕ
read_first (byte b) behind both = (b ∷ behind.0, 1 + behind.1)
read_first waits behind both = both
read_first start behind both = ([], 0)
read_first end behind both = ([], 0)
read_first wrong behind both = ([], 0)

-- the same where the first is half an escape, by what the second means
abbrev pub read_second : Meaning → List ℕ × ℕ → List ℕ × ℕ
read_second (byte b) behind = (b ∷ behind.0, 2 + behind.1)
read_second waits behind = ([], 0)
read_second start behind = ([], 0)
read_second end behind = ([], 0)
read_second wrong behind = ([], 0)

-- the bytes that wire bytes stand for, from the first on, and how many wire bytes they take: as many as come whole, up to n. What ends them, a mark,
-- a wrong code or half an escape at the end of the run, is left.
unfoldable pub unhide_up_to : Code → ℕ → List ℕ → List ℕ × ℕ
unhide_up_to code zero wire = ([], 0)
unhide_up_to code (suc n) [] = ([], 0)
unhide_up_to code (suc n) (w ∷ []) = read_first (code.plain w) ([], 0) ([], 0)
unhide_up_to code (suc n) (w ∷ x ∷ wire) =
    read_first (code.plain w) (unhide_up_to code n (x ∷ wire)) (read_second (code.after x) (unhide_up_to code n wire))

-- the same into memory from a place on, as far as it goes
abbrev pub unhide_into : Code → List ℕ → List ℕ → ℕ → ℕ → List ℕ × ℕ
unhide_into code wire memory at most = unhide_up_to code (min most (length memory - at)) wire
