use Rattle.std.proofs.Common.{◌≡◌, ℕ, ◌+◌, ◌-◌, ◌≤◌, List, ◌++◌, arith, length, take, sym, ap, ◌∙◌, subst, length-take-le}
use Rattle.std.specs.Io.KnownBytes.{Consumes}
use Rattle.std.proofs.KnownBytes.{Consumes-nil, Consumes-trans}
use borrow.Rule.Slice.PartMut.{put_mid, post_of}
use lib.Seq.{take-append-le, take-append-add}
use Rattle.vector_text.proofs.input.read_full.Goals as goal

-- n more bytes in the part from a on
filled : (a k n : ℕ) (xs ys : List ℕ) → a ≤ length xs → n ≤ length ys → take (a + n) (put_mid a k xs ys) ≡ take a xs ++ take n ys
filled a k n xs ys within fits =
    ap (λ (m : ℕ). take (m + n) (put_mid a k xs ys)) (sym (length-take-le a xs within))
    ∙ take-append-add (take a xs) (ys ++ post_of a k xs) n
    ∙ ap (λ l. take a xs ++ l) (take-append-le n ys (post_of a k xs) fits)

pub loop-done-init : goal.loop-done-init
loop-done-init g c = (omega arith, Consumes-nil (g.R.Read.remaining c.args.input.now))

pub returns-then-n-eq0-clause-bytes : goal.returns-then-n-eq0-clause-bytes
returns-then-n-eq0-clause-bytes g c =
    let at = c.loop-done.done in
    let room = length c.loop-done.out - at in
    let none : at + c.in_ok-n.n ≡ at = omega arith in
    subst (Consumes _ _)
    (sym (filled at room c.in_ok-n.n c.loop-done.out c.read.new.buf c.loop-done.invariant.0 c.in_ok-n.ensures.bound.0)
    ∙ ap (λ (m : ℕ). take m (put_mid at room c.loop-done.out c.read.new.buf)) none)
    (Consumes-trans _ _ _ _ _ c.loop-done.invariant.1 c.in_ok-n.ensures.bytes.0)

pub loop-done-preserved : goal.loop-done-preserved
loop-done-preserved g c =
    let at = c.loop-done.done in
    let room = length c.loop-done.out - at in (
      omega (arith, c.in_ok-n.ensures.bound.0),
      subst (Consumes _ _)
          (sym (filled at room c.in_ok-n.n c.loop-done.out c.read.new.buf c.loop-done.invariant.0 c.in_ok-n.ensures.bound.0))
          (Consumes-trans _ _ _ _ _ c.loop-done.invariant.1 c.in_ok-n.ensures.bytes.0),
    )

pub returns-clause-count : goal.returns-clause-count
returns-clause-count g c =
    (c.loop-done.invariant.0, sym (length-take-le c.loop-done.done c.loop-done.out c.loop-done.invariant.0))

pub returns-clause-bytes : goal.returns-clause-bytes
returns-clause-bytes g c = c.loop-done.invariant.1
