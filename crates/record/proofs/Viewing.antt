-- Each way out of reading an element, of a record and of a view.
use Prim.Native.Nat.{ℕ}
use mathlib.Core.Path.{◌≡◌, refl, sym, ap, ap₂, ◌∙◌}
use mathlib.Core.Bool.{Bool, true, false, cond}
use mathlib.Core.List.{List}
use lib.Dec.{ltb}
use lib.IntN.{ℤ}
use borrow.Author.Tests.{lt-ltb, le-ltb, eq-eqb, eqb-true}
use Rattle.std.specs.Prelude.{Option, Some, None, ok_or, Result, Ok, Err, IsErr, IsErrAnd}
use Rattle.framing.specs.declared.refusal.Refusal.{Refusal}
use Rattle.framing.specs.declared.refusal.Refusal.TheVariants.{NoElement}
use Rattle.runs.proofs.Cases.{and_both, by_ltb}
use Rattle.framing.specs.Answer.{Outcome, done, refused, outcome_of}
use Rattle.record.specs.declared.form.Header.{Header}
use Rattle.record.specs.Form.{signed_of, kind_of, count_of, well_formed, header_of}
use Rattle.record.specs.Fares.{Signedness, unsigned_fares, signed_fares, same, fare_at}
use Rattle.record.specs.Answers.{reading, present, element_of, is_record_of, viewing}
use Rattle.record.specs.Helpers.{Found}
use Rattle.record.proofs.Forms.{is_no, sign_is}

-- an error that `?` passes up
pub passed_up : {A : Type 0} (r : Result A Refusal) (e : Refusal) → IsErr r × IsErrAnd r (λ y. y ≡ e) → r ≡ Err e
passed_up (Ok a) e h = absurd h.1
passed_up (Err y) e h = ap Err h.1

-- no fare is 18
pub or_absent : {A : Type 0} (o : Option A) → outcome_of (ok_or o NoElement) ≡ present o
or_absent (Some a) = refl
or_absent None = refl

-- ---- an element of a record
module _ {A : Type 0} (F : Signedness A) (r : List ℕ) (i : ℕ) where
  pub read_malformed : well_formed r ≡ false → refused 16 ≡ reading F r i
  unfolding reading
  read_malformed e = rw e

  module _ {h : Header} (f : Found r h) where
    sign : (t : Bool) → same F.signed h.form.signed ≡ t → same F.signed (signed_of (kind_of r)) ≡ t
    sign t e = rw (sign_is f) at e

    pub read_other : same F.signed h.form.signed ≡ false → refused 17 ≡ reading F r i
    unfolding reading
    read_other e = rw (f.good, sign false e)

    -- the element that was looked up, or 18
    pub read_counted : same F.signed h.form.signed ≡ true → (found : Option A) → found ≡ cond (ltb i h.count) (Some (fare_at F r i)) None
        → present found ≡ reading F r i
    unfolding reading
    read_counted e found q =
        rw (f.good, sign true e, ← f.count_is)
        (ap present q ∙ by_ltb (λ o. present o ≡ cond (ltb i h.count) (done (fare_at F r i)) (refused 18)) i h.count (λ l. rw (lt-ltb i h.count l)) (λ l. rw (le-ltb i h.count l)))

-- ---- an element of a view
module _ (r : List ℕ) (kind count i : ℕ) where
  pub view_malformed : well_formed r ≡ false → (refused 16, refused 16) ≡ viewing r kind count i
  unfolding viewing is_record_of
  view_malformed e = rw e

  module _ {h : Header} (f : Found r h) where
    pub view_other : (h.kind ≡ kind → h.count ≡ count → ⊥) → (refused 16, refused 16) ≡ viewing r kind count i
    unfolding viewing is_record_of
    view_other n = rw (is_no _ (λ e.
        let t = and_both _ _ (and_both (well_formed r) _ e).1 in
        n (f.kind_is ∙ sym (eqb-true kind (kind_of r) t.0)) (f.count_is ∙ sym (eqb-true count (count_of r) t.1))))

    pub view_held : h.kind ≡ kind → h.count ≡ count → {x : Outcome ℕ} {y : Outcome ℤ}
        → x ≡ reading unsigned_fares r i → y ≡ reading signed_fares r i → (x, y) ≡ viewing r kind count i
    unfolding viewing is_record_of
    view_held k n p q =
        simp (f.good, eq-eqb _ _ (sym k ∙ f.kind_is), eq-eqb _ _ (sym n ∙ f.count_is)) (ap₂ (λ (a : Outcome ℕ) (b : Outcome ℤ). (a, b)) p q)

-- the view that was made of a record answers as the record does
pub view_of : (r : List ℕ) (kind count i : ℕ) → (kind, count) ≡ header_of r → viewing r kind count i ≡ element_of r i
unfolding viewing is_record_of reading header_of
view_of r kind count i e = go (well_formed r) refl
  where
    go : (t : Bool) → well_formed r ≡ t → viewing r kind count i ≡ element_of r i
    go true t =
        let is : (kind, count) ≡ (kind_of r, count_of r) = rw t at e in
        let k : kind ≡ kind_of r = ap (λ (x : ℕ × ℕ). x.0) is in
        let n : count ≡ count_of r = ap (λ (x : ℕ × ℕ). x.1) is in
        rw (t, eq-eqb kind (kind_of r) k, eq-eqb count (count_of r) n)
    go false t = rw t
