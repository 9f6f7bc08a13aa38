-- The answer of a host's call of a writer, as one signed number.
use Rattle.std.specs.Prelude.{ℕ, Bool, cond, List, eqb, leb, ℤ, pos, neg_ℤ}
use Rattle.framing.specs.Answer.{Outcome, done, refused}
use Rattle.framing.specs.Link.{Link, write_on}

-- the frame's length, or minus the refusal's number
abbrev pub int32_of : Outcome ℕ → ℤ
int32_of (done n) = pos n
int32_of (refused n) = neg_ℤ (pos n)

-- the call: what is answered, and the lent memory afterwards
abbrev pub writes_to : (L : Link) → L.Message → List ℕ → ℤ × List ℕ
writes_to L m out = (int32_of (write_on L m out).0, (write_on L m out).1)

-- a choice that comes as a number, 0 for no and 1 for yes; with any other the message may not be sent, and 3 is answered
abbrev pub chosen : ℕ → (Bool → ℤ × List ℕ) → List ℕ → ℤ × List ℕ
chosen n write out = cond (leb n 1) (write (eqb n 1)) (int32_of (refused 3), out)
