-- No call gives the number: from the numbers of each link, and from the tests of each other call.
use Prim.Native.Nat.{ℕ, ◌+◌, ◌-◌, ◌%◌}
use mathlib.Core.Path.{◌≡◌, refl, ap, sym, ◌∙◌}
use mathlib.Core.Bool.{Bool, true, false, not, false≢true, ◌&&◌}
use mathlib.Core.List.{List, [], ◌∷◌}
use mathlib.Core.Option.{Option, none, some}
use lib.Dec.{eqb, leb, ltb}
use lib.IntN.{ℤ}
use lib.ListN.{length, take, drop}
use borrow.Author.Tests.{eqb-false}
use Rattle.std.specs.Prelude.{Some, None, Result, Ok, Err}
use Rattle.framing.specs.Answer.{Outcome, done, refused, fault_of, stored_at}
use Rattle.framing.specs.Number.{number_of}
use Rattle.framing.specs.declared.refusal.Refusal.{Refusal}
use Rattle.framing.specs.declared.refusal.Refusal.TheVariants as why
use Rattle.framing.specs.Tests.{write_fault, call_fault}
use Rattle.framing.specs.Link.{Link}
use Rattle.framing.specs.Refusals.{is_in}
use Rattle.framing.proofs.Lawful.{Lawful}
use Rattle.framing.proofs.Refusals.{either, every, Given, gives_exactly, receive_gives, read_passes, writes_give}
use Rattle.framing.proofs.Stored.{by_writer}
use Rattle.packing.specs.Unpacked.{unpacked}
use Rattle.packing.specs.Contract.{stored_first, unpacked_in}
use Rattle.record.specs.Form.{signed_of, kind_of, count_of, well_formed}
use Rattle.record.specs.Fares.{Signedness, unsigned_fares, signed_fares, same, fare_at, writable, record_bytes}
use Rattle.record.specs.Answers.{copying, reading, writing, outcomes_of, is_record_of, viewing}
use Rattle.record.specs.declared.fare.Element.{Element}
use Rattle.record.specs.declared.fare.Element.TheVariants as element
use Rattle.gate.specs.Asking.{Exchange, Step, Asked, known, start, tick, arrival, wait_over, sends, ended, again, acts}
use Rattle.gate.specs.Asking as Asking
use Rattle.gate.specs.Chain.{Hop}
use Rattle.gate.specs.Chain as Chain
use Rattle.display.proofs.Numbers.{read_listed, take-listed}
use Rattle.display.proofs.Theorems.{writes_give as writes-of-orders}
use Rattle.pcs.proofs.Numbers as pcs-numbers
use Rattle.mdu.proofs.Numbers as mdu-numbers
use Rattle.dle.proofs.Numbers as dle-numbers
use Rattle.expansion.proofs.Numbers as expansion-numbers
use Rattle.claims.specs.Links.{Which, pcs, mdu, dle, expansion, link_of, stream_numbers_of}
use Rattle.claims.specs.Withdrawn.{withdrawn_number, LinkNever, LeafNever, RecordNever, ViewNever, GateNever, DisplayNever, Withdrawn}
use Rattle.claims.proofs.Demands.{lawful_of}

-- an answer with another number, or with none, is fine
abbrev Fine : {A : Type 0} → Outcome A → Type 0
Fine o = o ≡ refused withdrawn_number → ⊥

fine : {A : Type 0} (o : Outcome A) → eqb (fault_of o) withdrawn_number ≡ false → Fine o
fine o h e = eqb-false (fault_of o) withdrawn_number h (ap fault_of e)

other : (n : ℕ) → eqb n withdrawn_number ≡ false → n ≡ withdrawn_number → ⊥
other n h e = eqb-false n withdrawn_number h e

-- ---- links

other_passes : not (eqb withdrawn_number withdrawn_number) ≡ true → ⊥
other_passes h = false≢true h

module _ (L : Link) (laws : Lawful L) (numbers : List ℕ) (given : Given L numbers) where
  -- it is not among the numbers of its streams, nor of a receiver's call, nor of a read, nor of a writer
  link_never : is_in withdrawn_number numbers ≡ false → is_in withdrawn_number (12 ∷ 1 ∷ numbers) ≡ false
      → every (λ n. not (eqb n withdrawn_number)) (6 ∷ 1 ∷ numbers) ≡ true → is_in withdrawn_number (3 ∷ 2 ∷ []) ≡ false → LinkNever L withdrawn_number
  link_never a b c d =
      record {
        streams = λ g. false≢true (sym a ∙ (gives_exactly L laws numbers given withdrawn_number).1 g);
        receives = λ g. false≢true (sym b ∙ (receive_gives L laws numbers given withdrawn_number).1 g);
        reads = λ g. other_passes (read_passes L laws numbers given (λ n. not (eqb n withdrawn_number)) c g.run g.store withdrawn_number g.answers);
        writes = λ m memory e. false≢true (sym d ∙ writes_give L m memory withdrawn_number e);
      }

links_never : (w : Which) → LinkNever (link_of w) withdrawn_number
links_never pcs = link_never (link_of pcs) (lawful_of pcs) (stream_numbers_of pcs) pcs-numbers.given refl refl refl refl
links_never mdu = link_never (link_of mdu) (lawful_of mdu) (stream_numbers_of mdu) mdu-numbers.given refl refl refl refl
links_never dle = link_never (link_of dle) (lawful_of dle) (stream_numbers_of dle) dle-numbers.given refl refl refl refl
links_never expansion = link_never (link_of expansion) (lawful_of expansion) (stream_numbers_of expansion) expansion-numbers.given refl refl refl refl

-- ---- leaves

stored_first_lem : (store : List ℕ) (o : Option (List ℕ)) → Fine (stored_first store o).0
unfolding stored_first
stored_first_lem store none = fine (refused 13) refl
stored_first_lem store (some d) = fine (done (length d)) refl

write_tests_never : (sendable fits : Bool) → write_fault sendable fits ≡ withdrawn_number → ⊥
write_tests_never false fits = other 3 refl
write_tests_never true false = other 2 refl
write_tests_never true true = other 0 refl

call_tests_never : (known holds : Bool) → call_fault known holds ≡ withdrawn_number → ⊥
call_tests_never false holds = other 12 refl
call_tests_never true false = other 1 refl
call_tests_never true true = other 0 refl

leaf_never : LeafNever withdrawn_number
unfolding stored_at unpacked_in
leaf_never =
    record {
      write_tests = write_tests_never;
      call-tests = call_tests_never;
      stores = λ run memory at. either (λ (w : Outcome ℕ × List ℕ). Fine w.0) (leb (at + length run) (length memory))
          (fine (done (length run)) refl) (fine (refused 2) refl);
      unpacks = λ store from count. stored_first_lem store (unpacked (take count (drop from store)));
    }

-- ---- records

module _ {A : Type 0} (F : Signedness A) where
  abbrev First : Outcome ℕ × List A → Type 0
  First w = Fine w.0

  read_never : (r : List ℕ) (i : ℕ) → Fine (reading F r i)
  unfolding reading
  read_never r i =
      either Fine (well_formed r)
      (either Fine (same F.signed (signed_of (kind_of r)))
      (either Fine (ltb i (count_of r)) (fine (done (fare_at F r i)) refl) (fine (refused 18) refl))
      (fine (refused 17) refl))
      (fine (refused 16) refl)

  record_never : RecordNever F withdrawn_number
  unfolding copying writing
  record_never =
      record {
        copies = λ r out. either First (well_formed r)
            (either First (same F.signed (signed_of (kind_of r)))
            (either First (leb (count_of r) (length out)) (fine (done (count_of r)) refl) (fine (refused 2) refl))
            (fine (refused 17) refl))
            (fine (refused 16) refl);
        reads = read_never;
        writes = λ kind address fares memory. by_writer (writable F kind address) (record_bytes F kind address) fares memory (λ (w : Outcome ℕ × List ℕ). Fine w.0)
            (λ _. fine (refused 3) refl) (λ _ _. fine (refused 2) refl) (λ _ _. fine (done (length (record_bytes F kind address fares))) refl);
      }

-- no refusal has the number
not_withdrawn : (r : Refusal) → eqb (number_of r) withdrawn_number ≡ false
not_withdrawn why.StoreShort = refl
not_withdrawn why.OutputShort = refl
not_withdrawn why.Unsendable = refl
not_withdrawn why.NewStart = refl
not_withdrawn why.TooLong = refl
not_withdrawn why.TooShort = refl
not_withdrawn why.WrongCode = refl
not_withdrawn why.WrongCheck = refl
not_withdrawn why.WrongField = refl
not_withdrawn why.WrongLength = refl
not_withdrawn why.UnknownState = refl
not_withdrawn why.BadlyPacked = refl
not_withdrawn why.Busy = refl
not_withdrawn why.NoStep = refl
not_withdrawn why.Malformed = refl
not_withdrawn why.OtherSign = refl
not_withdrawn why.NoElement = refl
not_withdrawn why.OutsideProfile = refl

asked_unsigned_never : (e : Result Element Refusal) → Fine (outcomes_of e).0
asked_unsigned_never (Ok (element.Unsigned (Some n))) = fine (done n) refl
asked_unsigned_never (Ok (element.Unsigned None)) = fine {A = ℕ} (refused 18) refl
asked_unsigned_never (Ok (element.Signed z)) = fine {A = ℕ} (refused 17) refl
asked_unsigned_never (Err r) = fine {A = ℕ} (refused (number_of r)) (not_withdrawn r)

asked_signed_never : (e : Result Element Refusal) → Fine (outcomes_of e).1
asked_signed_never (Ok (element.Unsigned n)) = fine {A = ℤ} (refused 17) refl
asked_signed_never (Ok (element.Signed (Some z))) = fine (done z) refl
asked_signed_never (Ok (element.Signed None)) = fine {A = ℤ} (refused 18) refl
asked_signed_never (Err r) = fine {A = ℤ} (refused (number_of r)) (not_withdrawn r)

view_never : ViewNever withdrawn_number
unfolding viewing
view_never =
    record {
      views_unsigned = λ payload kind count i. either (λ (w : Outcome ℕ × Outcome ℤ). Fine w.0) (is_record_of payload kind count)
          (read_never unsigned_fares payload i) (fine (refused 16) refl);
      views_signed = λ payload kind count i. either (λ (w : Outcome ℕ × Outcome ℤ). Fine w.1) (is_record_of payload kind count)
          (read_never signed_fares payload i) (fine (refused 16) refl);
      asked_unsigned_lem = asked_unsigned_never;
      asked_signed_lem = asked_signed_never;
    }

-- ---- the gate exchange

abbrev asked_fault : Asked → ℕ
asked_fault (Asking.refused n) = n
asked_fault (Asking.send id repeat) = 0
asked_fault Asking.done = 0
asked_fault Asking.gave_up = 0
asked_fault Asking.nothing = 0

abbrev Told : Asked × Exchange → Type 0
Told w = w.0 ≡ Asking.refused withdrawn_number → ⊥

told : (w : Asked × Exchange) → eqb (asked_fault w.0) withdrawn_number ≡ false → Told w
told w h i = eqb-false (asked_fault w.0) withdrawn_number h (ap asked_fault i)

again_never : (e : Exchange) (now : ℕ) → Told (again e now)
again_never e now = either Told (ltb e.repeat 3) (told (sends e.id (e.repeat + 1) now) refl) (told (Asking.gave_up, ended e) refl)

acts_never : (e : Exchange) (s : Step) → Told (acts e s)
acts_never e (start now) = either Told (eqb e.mode 0) (told (sends ((e.id + 1) % 256) 0 now) refl) (told (Asking.refused 14, e) refl)
acts_never e (tick now) = either Told (eqb e.mode 1 && wait_over now e.sent) (again_never e now) (told (Asking.nothing, e) refl)
acts_never e (arrival id kind now) =
    either Told (eqb e.mode 1 && eqb id e.id)
    (either Told (eqb kind 1) (told (Asking.done, ended e) refl) (either Told (eqb kind 2) (again_never e now) (told (Asking.nothing, e) refl)))
    (told (Asking.nothing, e) refl)

abbrev hop_fault : Hop → ℕ
hop_fault (Chain.refused n) = n
hop_fault Chain.here = 0
hop_fault (Chain.onward address) = 0

abbrev Hops : Hop → Type 0
Hops h = h ≡ Chain.refused withdrawn_number → ⊥

hops : (h : Hop) → eqb (hop_fault h) withdrawn_number ≡ false → Hops h
hops h k i = eqb-false (hop_fault h) withdrawn_number k (ap hop_fault i)

gate_never : GateNever withdrawn_number
gate_never =
    record {
      asks = λ e s. either Told (known e) (acts_never e s) (told (Asking.refused 12, e) refl);
      steps_down_lem = λ address. either Hops (eqb address 0) (hops (Chain.refused 15) refl)
          (either Hops (eqb (address - 1) 0) (hops Chain.here refl) (hops (Chain.onward (address - 1)) refl));
      steps_up_lem = λ address. either Hops (eqb address 255) (hops (Chain.refused 15) refl) (hops (Chain.onward (address + 1)) refl);
    }

-- ---- the display

display_never : DisplayNever withdrawn_number
display_never =
    record {
      writes = λ o memory e. false≢true (writes-of-orders o memory withdrawn_number e);
      reads = λ run store e. false≢true (read_listed run store withdrawn_number e);
      takes = λ d run store memory e. false≢true (take-listed d run store memory withdrawn_number e);
    }

pub withdrawn : Withdrawn
withdrawn =
    record {
      links = links_never;
      leaves = leaf_never;
      records = λ F. record_never F;
      views = view_never;
      gate = gate_never;
      display = display_never;
    }
