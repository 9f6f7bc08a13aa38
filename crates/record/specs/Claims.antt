-- What is claimed of records beyond the contracts of the functions. proofs/ReadBack.antt proves the claims, for both signednesses.
use Rattle.std.specs.Prelude.{ℕ, ◌≤◌, ◌≡◌, ◌↔◌, Bool, true, ◌&&◌, List, length, take}
use Rattle.std.proofs.Math.Option.{some}
use Rattle.std.proofs.Math.ListN.{get_elem?}
use Rattle.runs.specs.Runs.{Bytes, over}
use Rattle.framing.specs.Answer.{done}
use Rattle.record.specs.Form.{signed_of, kind_of, address_of, well_formed}
use Rattle.record.specs.Fares.{Signedness, same, fares_of, writable, record_bytes}
use Rattle.record.specs.Answers.{copying, reading, writing}

module _ {A : Type 0} (F : Signedness A) where
  -- a record is accepted: neither 16 nor 17
  abbrev pub accepted : List ℕ → Bool
  accepted r = well_formed r && same F.signed (signed_of (kind_of r))

  -- fares that may be written, and memory that holds their record
  abbrev pub Writes : ℕ → ℕ → List A → List ℕ → Type 0
  Writes kind address fares memory =
      (writable F kind address fares ≡ true) × (length (record_bytes F kind address fares) ≤ length memory)

  -- the bytes that the writer then leaves at the start of the memory
  abbrev pub written : ℕ → ℕ → List A → List ℕ → List ℕ
  written kind address fares memory = take (length (record_bytes F kind address fares)) (writing F kind address fares memory).1

  -- the writer answers how many they are, and they copy back as the fares
  abbrev pub WrittenCopiesBack : Type 0
  WrittenCopiesBack =
      (kind address : ℕ) (fares : List A) (memory : List ℕ) (out : List A) → Writes kind address fares memory → length fares ≤ length out
      → ((writing F kind address fares memory).0 ≡ done (length (record_bytes F kind address fares)))
      × (copying F (written kind address fares memory) out ≡ (done (length fares), over fares out))

  -- each fare reads back by its number
  abbrev pub WrittenElementBack : Type 0
  WrittenElementBack =
      (kind address : ℕ) (fares : List A) (memory : List ℕ) (i : ℕ) (fare : A) → Writes kind address fares memory
      → get_elem? fares i ≡ some fare → reading F (written kind address fares memory) i ≡ done fare

  -- what is accepted is exactly what the writer makes of its type, address and elements
  abbrev pub AcceptedWritten : Type 0
  AcceptedWritten =
      (r : List ℕ) → Bytes r
      → (accepted r ≡ true)
      ↔ ((writable F (kind_of r) (address_of r) (fares_of F r) ≡ true) × (record_bytes F (kind_of r) (address_of r) (fares_of F r) ≡ r))

  -- two accepted records with the same type, address and elements are the same bytes
  abbrev pub AcceptedSame : Type 0
  AcceptedSame =
      (r s : List ℕ) → Bytes r → Bytes s → accepted r ≡ true → accepted s ≡ true
      → kind_of r ≡ kind_of s → address_of r ≡ address_of s → fares_of F r ≡ fares_of F s → r ≡ s

  pub record Claims : Type 0 where
    pub copies_back : WrittenCopiesBack
    pub element_back : WrittenElementBack
    pub exact : AcceptedWritten
    pub unique : AcceptedSame
