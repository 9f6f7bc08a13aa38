-- What each call answers, a value or a number of 01's table, and what it leaves in lent memory.
use Rattle.std.specs.Prelude.{ℕ, List, Bool, cond, ◌&&◌, length, leb, ltb, eqb, ℤ, Option, Some, None, Result, Ok, Err}
use Rattle.runs.specs.Runs.{over}
use Rattle.framing.specs.Answer.{Outcome, done, refused}
use Rattle.framing.specs.Number.{number_of}
use Rattle.framing.specs.Writer.{writes}
use Rattle.framing.specs.declared.refusal.Refusal.{Refusal}
use Rattle.record.specs.Form.{signed_of, kind_of, count_of, well_formed}
use Rattle.record.specs.Fares.{Signedness, unsigned_fares, signed_fares, same, fares_of, fare_at, writable, record_bytes}
use Rattle.record.specs.declared.fare.Element.{Element}
use Rattle.record.specs.declared.fare.Element.TheVariants.{Unsigned, Signed}

module _ {A : Type 0} (F : Signedness A) where
  -- copying: 16, 17, 2; else the count, and the fares at the start of the run
  unfoldable pub copying : List ℕ → List A → Outcome ℕ × List A
  copying r out =
      cond (well_formed r)
      (cond (same F.signed (signed_of (kind_of r)))
      (cond (leb (count_of r) (length out)) (done (count_of r), over (fares_of F r) out) (refused 2, out))
      (refused 17, out))
      (refused 16, out)

  -- one element: 16, 17, 18; else the fare
  unfoldable pub reading : List ℕ → ℕ → Outcome A
  reading r i =
      cond (well_formed r)
      (cond (same F.signed (signed_of (kind_of r))) (cond (ltb i (count_of r)) (done (fare_at F r i)) (refused 18)) (refused 17))
      (refused 16)

  -- writing: 3, 2, as a link's writer; else the length, and the record at the start of the memory
  unfoldable pub writing : ℕ → ℕ → List A → List ℕ → Outcome ℕ × List ℕ
  writing kind address fares memory = writes (writable F kind address) (record_bytes F kind address) fares memory

-- what stands at an element number: a fare, or 18
abbrev pub present : {A : Type 0} → Option A → Outcome A
present (Some a) = done a
present None = refused 18

-- each case of an element, where an unsigned fare is asked for, ..
abbrev pub asked_unsigned : Element → Outcome ℕ
asked_unsigned (Unsigned fare) = present fare
asked_unsigned (Signed fare) = refused 17

-- .. and where a signed one is
abbrev pub asked_signed : Element → Outcome ℤ
asked_signed (Unsigned fare) = refused 17
asked_signed (Signed fare) = present fare

-- both together, and where there is no element
abbrev pub outcomes_of : Result Element Refusal → Outcome ℕ × Outcome ℤ
outcomes_of (Ok e) = (asked_unsigned e, asked_signed e)
outcomes_of (Err r) = (refused (number_of r), refused (number_of r))

-- one element, asked for as unsigned and as signed
abbrev pub element_of : List ℕ → ℕ → Outcome ℕ × Outcome ℤ
element_of r i = (reading unsigned_fares r i, reading signed_fares r i)

-- a payload is a well-formed record of this type and count
unfoldable pub is_record_of : List ℕ → ℕ → ℕ → Bool
is_record_of r kind count = well_formed r && (eqb kind (kind_of r) && eqb count (count_of r))

-- one element of a view, whatever stands in it: 16 unless its payload is a well-formed record of its type and count, then that record's
unfoldable pub viewing : List ℕ → ℕ → ℕ → ℕ → Outcome ℕ × Outcome ℤ
viewing payload kind count i = cond (is_record_of payload kind count) (element_of payload i) (refused 16, refused 16)
