-- What is written reads back, and what is accepted is what the writer makes of it.
use Prim.Native.Nat.{ℕ, zero, suc, ◌+◌, ◌*◌, ◌≤◌, ◌<◌}
use mathlib.Core.Path.{◌≡◌, refl, sym, ap, ap₂, ◌∙◌, subst₂}
use mathlib.Core.Bool.{true, ◌&&◌}
use mathlib.Core.List.{List, [], ◌∷◌, ◌++◌, map, append_assoc}
use mathlib.Core.Option.{some}
use native.Mathlib.Omega.{arith}
use lib.Dec.{lit≤}
use lib.ListN.{length, get_or, take, drop, get_elem?, length-append, length-map, length-drop, length-take}
use lib.Seq.{sets, take_at, drop_at}
use borrow.Author.Tests.{le-leb, lt-ltb}
use Rattle.std.specs.List.{list_all}
use Rattle.runs.specs.Runs.{Bytes, over}
use Rattle.runs.specs.Number.{little_endian, bytes_of}
use Rattle.runs.proofs.Bytes.{bytes_drop, bytes_take}
use Rattle.runs.proofs.Cases.{and_both}
use Rattle.runs.proofs.Number.{number_bytes_of, length-bytes_of}
use Rattle.runs.proofs.Run.{part_sets}
use Rattle.framing.specs.Answer.{done}
use Rattle.framing.proofs.Stored.{stored_done, writes_stored}
use Rattle.record.specs.Numbers.{numbers}
use Rattle.record.specs.Form.{size_of, signed_of, kind_of, address_of, count_of, allowed, well_formed}
use Rattle.record.specs.Fares.{Signedness, unsigned_fares, signed_fares, same, fares_of, fare_at, writable, elements, record_bytes}
use Rattle.record.specs.Answers.{copying, reading, writing}
use Rattle.record.specs.Claims.{accepted, Writes, written, WrittenCopiesBack, WrittenElementBack, AcceptedWritten, AcceptedSame, Claims}
use Rattle.record.proofs.Every.{every_map, map_back}
use Rattle.record.proofs.Numbers.{fits, bytes_of_sized, length-numbers, numbers-bytes_of_all, bytes_of_all-numbers, every-numbers}
use Rattle.record.proofs.Forms.{Allowed, allowed_facts, is_allowed, limit_le, Formed, formed, is_formed}
use Rattle.record.proofs.Loops.{fare-at}
use Rattle.record.proofs.Sound.{Lawful, Sound, unsigned_sound, signed_sound}
use Rattle.record.proofs.Writing.{length_record}

-- an element that is there
there : {A : Type 0} (l : List A) (i : ℕ) (a d : A) → get_elem? l i ≡ some a → (i < length l) × (get_or l i d ≡ a)
there [] i a d e = let z : ◌≡◌ {A = ℕ} 0 1 = cc in absurd (omega arith)
there (x ∷ l) zero a d e = (omega arith, cc)
there (x ∷ l) (suc i) a d e = let h = there l i a d e in (omega arith, h.1)

-- a record in its four parts
parts : (r : List ℕ) → 5 ≤ length r → (get_or r 0 0 ∷ take 2 (drop 1 r)) ++ take 2 (drop 3 r) ++ drop 5 r ≡ r
parts (a ∷ b ∷ c ∷ d ∷ e ∷ r) h = refl
parts [] h = absurd (omega arith)
parts (a ∷ []) h = absurd (omega arith)
parts (a ∷ b ∷ []) h = absurd (omega arith)
parts (a ∷ b ∷ c ∷ []) h = absurd (omega arith)
parts (a ∷ b ∷ c ∷ d ∷ []) h = absurd (omega arith)

module _ {A : Type 0} (F : Signedness A) where
  -- ---- the record of fares that may be written
  module _ (sound : Sound F) (kind address : ℕ) (l : List A) (w : writable F kind address l ≡ true) where
    abbrev sent : List ℕ
    sent = record_bytes F kind address l

    abbrev sent-elements : List ℕ
    sent-elements = elements F (size_of kind) l

    tests : (same F.signed (signed_of kind) ≡ true) × ((allowed kind address (length l) ≡ true) × (list_all (F.holds (size_of kind)) l ≡ true))
    unfolding writable
    tests =
        let h = and_both (same F.signed (signed_of kind)) (allowed kind address (length l) && list_all (F.holds (size_of kind)) l) w in
        (h.0, and_both (allowed kind address (length l)) (list_all (F.holds (size_of kind)) l) h.1)

    facts : Allowed kind address (length l)
    facts = allowed_facts kind address (length l) tests.1.0

    law : Lawful F (size_of kind)
    law = sound kind tests.0

    -- the fields that the reader finds
    found_address : address_of sent ≡ address
    found_address =
        let small : address < 65536 = omega (arith, facts, limit_le kind) in
        let behind-kind : drop 1 sent ≡ bytes_of 2 address ++ (bytes_of 2 (length l) ++ sent-elements) = append_assoc (bytes_of 2 address) (bytes_of 2 (length l)) sent-elements in
        ap (λ (b : List ℕ). little_endian (take 2 b)) behind-kind
        ∙ ap little_endian (take_at (bytes_of 2 address) (bytes_of 2 (length l) ++ sent-elements) 2 (length-bytes_of 2 address))
        ∙ number_bytes_of 2 address small

    found_count : count_of sent ≡ length l
    found_count =
        let few : length l < 65536 = omega (arith, facts, limit_le kind) in
        let behind-address : drop 3 sent ≡ bytes_of 2 (length l) ++ sent-elements =
        ap (λ (b : List ℕ). drop 2 b) (append_assoc (bytes_of 2 address) (bytes_of 2 (length l)) sent-elements) ∙ drop_at (bytes_of 2 address) (bytes_of 2 (length l) ++ sent-elements) 2 (length-bytes_of 2 address) in
        ap (λ (b : List ℕ). little_endian (take 2 b)) behind-address
        ∙ ap little_endian (take_at (bytes_of 2 (length l)) sent-elements 2 (length-bytes_of 2 (length l)))
        ∙ number_bytes_of 2 (length l) few

    found-elements : drop 5 sent ≡ sent-elements
    found-elements = drop_at (bytes_of 2 address ++ bytes_of 2 (length l)) sent-elements 4 (simp (length-append, length-bytes_of))

    written_formed : well_formed sent ≡ true
    written_formed =
        is_formed sent (record {
          room = omega (arith, length_record F kind address l);
          allows = subst₂ (λ a n. Allowed kind a n) (sym found_address) (sym found_count) facts;
          whole = length_record F kind address l ∙ ap (λ n. 5 + size_of kind * n) (sym found_count);
        })

    written-fares : fares_of F sent ≡ l
    written-fares =
        let ns = map (F.number_of (size_of kind)) l in
        let e : numbers (size_of kind) (length ns) sent-elements ≡ ns =
        numbers-bytes_of_all (size_of kind) ns (every_map (F.holds (size_of kind)) (F.number_of (size_of kind)) (fits (size_of kind)) law.below l tests.1.1) in
        ap₂ (λ n bs. map (F.fare_of (size_of kind)) (numbers (size_of kind) n bs)) (found_count ∙ sym (length-map l (F.number_of (size_of kind)))) found-elements
        ∙ ap (λ (m : List ℕ). map (F.fare_of (size_of kind)) m) e
        ∙ map_back (F.holds (size_of kind)) (F.number_of (size_of kind)) (F.fare_of (size_of kind)) law.back l tests.1.1

    copies : (out : List A) → length l ≤ length out → copying F sent out ≡ (done (length l), over l out)
    unfolding copying
    copies out h = rw (written_formed, tests.0, written-fares, found_count, le-leb (length l) (length out) h)

    reads : (i : ℕ) (a : A) → get_elem? l i ≡ some a → reading F sent i ≡ done a
    unfolding reading
    reads i a q =
        let h = there l i a (F.fare_of (size_of kind) 0) q in
        let m : i < count_of sent = rw found_count h.0 in
        let e : fare_at F sent i ≡ a =
        sym (fare-at F sent (size_of kind) (count_of sent) i m)
        ∙ ap (λ (m : List A). get_or m i (F.fare_of (size_of kind) 0)) written-fares
        ∙ h.1 in
        rw (written_formed, tests.0, lt-ltb i (count_of sent) m, e)

  -- ---- a record that is accepted
  module _ (sound : Sound F) (r : List ℕ) (bytes : Bytes r) (a : accepted F r ≡ true) where
    good : (well_formed r ≡ true) × (same F.signed (signed_of (kind_of r)) ≡ true)
    good = and_both (well_formed r) (same F.signed (signed_of (kind_of r))) a

    shape : Formed r
    shape = formed r good.0

    abbrev size : ℕ
    size = size_of (kind_of r)

    abbrev ns : List ℕ
    ns = numbers size (count_of r) (drop 5 r)

    their_fits : list_all (fits size) ns ≡ true
    their_fits = every-numbers size (count_of r) (drop 5 r) (bytes_drop 5 r bytes)

    fares_count : length (fares_of F r) ≡ count_of r
    fares_count = simp (length-map, length-numbers)

    accepted-writable : writable F (kind_of r) (address_of r) (fares_of F r) ≡ true
    unfolding writable
    accepted-writable =
        rw (
          good.1,
          fares_count,
          is_allowed (kind_of r) (address_of r) (count_of r) shape.allows,
          every_map (fits size) (F.fare_of size) (F.holds size) (sound (kind_of r) good.1).held ns their_fits,
        )

    accepted_bytes : record_bytes F (kind_of r) (address_of r) (fares_of F r) ≡ r
    accepted_bytes =
        let two : (at : ℕ) → at + 2 ≤ 5 → bytes_of 2 (little_endian (take 2 (drop at r))) ≡ take 2 (drop at r) =
        λ at h. bytes_of_sized 2 (take 2 (drop at r)) (bytes_take 2 (drop at r) (bytes_drop at r bytes)) (rw (length-take, length-drop) (omega (arith, shape.room))) in
        rw (
          fares_count,
          two 1 (lit≤ tt),
          two 3 (lit≤ tt),
          map_back (fits size) (F.fare_of size) (F.number_of size) (sound (kind_of r) good.1).forth ns their_fits,
          bytes_of_all-numbers size (count_of r) (drop 5 r) (bytes_drop 5 r bytes) (rw length-drop (omega (arith, shape.whole))),
        )
        (parts r shape.room)

  -- ---- the claims
  -- what a write that is not refused answers and leaves
  write_leaves : (kind address : ℕ) (l : List A) (memory : List ℕ) → Writes F kind address l memory
      → writing F kind address l memory ≡ (done (length (record_bytes F kind address l)), sets memory 0 (record_bytes F kind address l))
  unfolding writing
  write_leaves kind address l memory h =
      writes_stored (writable F kind address) (record_bytes F kind address) l memory h.0 ∙ stored_done (record_bytes F kind address l) memory 0 (omega (arith, h.1))

  written_is : (kind address : ℕ) (l : List A) (memory : List ℕ) → Writes F kind address l memory → written F kind address l memory ≡ record_bytes F kind address l
  written_is kind address l memory h =
      let r = record_bytes F kind address l in
      ap (λ p. take (length r) p.1) (write_leaves kind address l memory h) ∙ part_sets memory 0 r (omega (arith, h.1))

  pub written_copies_back : Sound F → WrittenCopiesBack F
  written_copies_back sound kind address l memory out h m =
      (ap (λ p. p.0) (write_leaves kind address l memory h), ap (λ b. copying F b out) (written_is kind address l memory h) ∙ copies sound kind address l h.0 out m)

  pub written_element_back : Sound F → WrittenElementBack F
  written_element_back sound kind address l memory i a h e =
      ap (λ b. reading F b i) (written_is kind address l memory h) ∙ reads sound kind address l h.0 i a e

  pub accepted-written : Sound F → AcceptedWritten F
  accepted-written sound r bytes =
      (λ a. (accepted-writable sound r bytes a, accepted_bytes sound r bytes a), λ h. back h.0 h.1)
    where
      back : writable F (kind_of r) (address_of r) (fares_of F r) ≡ true → record_bytes F (kind_of r) (address_of r) (fares_of F r) ≡ r → accepted F r ≡ true
      back w e =
          let good : well_formed r ≡ true = sym (ap well_formed e) ∙ written_formed sound (kind_of r) (address_of r) (fares_of F r) w in
          rw (good, (tests sound (kind_of r) (address_of r) (fares_of F r) w).0)

  pub accepted-same : Sound F → AcceptedSame F
  accepted-same sound r s br bs ar as' k a f =
      sym (accepted_bytes sound r br ar) ∙ rw (f, a, k) (accepted_bytes sound s bs as')

pub unsigned_claims : Claims unsigned_fares
unsigned_claims =
    record {
      copies_back = written_copies_back unsigned_fares unsigned_sound;
      element_back = written_element_back unsigned_fares unsigned_sound;
      exact = accepted-written unsigned_fares unsigned_sound;
      unique = accepted-same unsigned_fares unsigned_sound;
    }

pub signed_claims : Claims signed_fares
signed_claims =
    record {
      copies_back = written_copies_back signed_fares signed_sound;
      element_back = written_element_back signed_fares signed_sound;
      exact = accepted-written signed_fares signed_sound;
      unique = accepted-same signed_fares signed_sound;
    }
