-- Each way out of copying, whatever the signedness.
use Prim.Native.Nat.{ℕ, ◌≤◌, ◌<◌}
use mathlib.Core.Path.{◌≡◌, ap, ◌∙◌}
use mathlib.Core.Bool.{Bool, true, false}
use mathlib.Core.List.{List}
use native.Mathlib.Omega.{arith}
use lib.ListN.{length}
use lib.Seq.{sets}
use borrow.Author.Tests.{le-leb, lt-leb}
use Rattle.runs.proofs.Run.{sets_over}
use Rattle.framing.specs.Answer.{done, refused}
use Rattle.record.specs.declared.form.Header.{Header}
use Rattle.record.specs.Form.{signed_of, kind_of, count_of, well_formed}
use Rattle.record.specs.Fares.{Signedness, same, fares_of}
use Rattle.record.specs.Answers.{copying}
use Rattle.record.specs.Helpers.{Found}
use Rattle.record.proofs.Forms.{sign_is}
use Rattle.record.proofs.Loops.{length-fares}

module _ {A : Type 0} (F : Signedness A) (r : List ℕ) (out : List A) where
  pub copy_malformed : well_formed r ≡ false → (refused 16, out) ≡ copying F r out
  unfolding copying
  copy_malformed e = rw e

  module _ {h : Header} (f : Found r h) where
    sign : (t : Bool) → same F.signed h.form.signed ≡ t → same F.signed (signed_of (kind_of r)) ≡ t
    sign t e = rw (sign_is f) at e

    pub copy_other : same F.signed h.form.signed ≡ false → (refused 17, out) ≡ copying F r out
    unfolding copying
    copy_other e = rw (f.good, sign false e)

    module _ (e : same F.signed h.form.signed ≡ true) where
      same_sign : same F.signed (signed_of (kind_of r)) ≡ true
      same_sign = sign true e

      pub copy_short : length out < h.count → (refused 2, out) ≡ copying F r out
      unfolding copying
      copy_short l = rw (f.good, same_sign, lt-leb (count_of r) (length out) (omega (arith, f.count_is)))

      pub copy_done : (after : List A) → h.count ≤ length out → after ≡ sets out 0 (fares_of F r) → (done h.count, after) ≡ copying F r out
      unfolding copying
      copy_done after l q =
          let room : count_of r ≤ length out = omega (arith, f.count_is) in
          rw (f.good, same_sign, le-leb (count_of r) (length out) room, f.count_is)
          (ap (λ (x : List A). (done (count_of r), x)) (q ∙ sets_over (fares_of F r) out (rw length-fares room)))
