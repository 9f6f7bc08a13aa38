use Rattle.std.proofs.Common.{◌+◌, ◌-◌, ◌++◌, length, sym, refl, ◌∙◌, arith, length-append, leb-true, leb-false}
use Rattle.framing.proofs.Stored.{stored_so, stored_refused, part_copied}
use Rattle.runs.proofs.Run.{run_end}
use Rattle.escape.specs.Code.{hide}
use Rattle.escape.proofs.Written.{frame_length, one, two, three, four, five}
use Rattle.escape.proofs.enclosed.enclose_into.Goals as goal

pub returns-then-not-fits : goal.returns-then-not-fits
returns-then-not-fits g c =
    let a = c.args in
    let code = g.C.Code.code in
    let run = a.start.now ++ (hide code (a.header.now ++ (a.«data».now ++ a.trailer.now)) ++ a.end.now) in
    let short = leb-false _ (length a.out.now) (sym c.fits.ensures ∙ c.if-not-fits.true) in
    sym (stored_refused run a.out.now 0 (omega (arith, short, frame_length code a.header.now a.«data».now a.trailer.now a.start.now a.end.now a.out.now)))

pub put_bytes-at-requires : goal.put_bytes-at-requires
put_bytes-at-requires g c =
    let a = c.args in
    let fit = leb-true _ (length a.out.now) (sym c.fits.ensures ∙ c.if-not-fits.false) in
    let r = one g.C.Code.code a.header.now a.«data».now a.trailer.now a.start.now a.end.now a.out.now _ fit c.copy_from_slice.ensures.after in
    omega (arith, r.left, r.fits, r.long, length-append (hide g.C.Code.code a.header.now) ((hide g.C.Code.code a.«data».now) ++ ((hide g.C.Code.code a.trailer.now) ++ a.end.now)))

pub overflow_add-at : goal.overflow_add-at
overflow_add-at g c =
    let a = c.args in
    let fit = leb-true _ (length a.out.now) (sym c.fits.ensures ∙ c.if-not-fits.false) in
    let h = c.put_bytes-at.ensures in
    let r = two g.C.Code.code a.header.now a.«data».now a.trailer.now a.start.now a.end.now a.out.now _ fit c.copy_from_slice.ensures.after
    _ _ h.taken h.put in
    omega (arith, r.left, r.fits)

pub put_bytes-at-requires-2 : goal.put_bytes-at-requires-2
put_bytes-at-requires-2 g c =
    let a = c.args in
    let fit = leb-true _ (length a.out.now) (sym c.fits.ensures ∙ c.if-not-fits.false) in
    let h = c.put_bytes-at.ensures in
    let r = two g.C.Code.code a.header.now a.«data».now a.trailer.now a.start.now a.end.now a.out.now _ fit c.copy_from_slice.ensures.after
    _ _ h.taken h.put in
    omega (arith, r.left, r.fits, r.long, length-append (hide g.C.Code.code a.«data».now) ((hide g.C.Code.code a.trailer.now) ++ a.end.now))

pub overflow_add-at-2 : goal.overflow_add-at-2
overflow_add-at-2 g c =
    let a = c.args in
    let fit = leb-true _ (length a.out.now) (sym c.fits.ensures ∙ c.if-not-fits.false) in
    let h = c.put_bytes-at.ensures in
    let d = c.put_bytes-at-2.ensures in
    let r = three g.C.Code.code a.header.now a.«data».now a.trailer.now a.start.now a.end.now a.out.now _ fit c.copy_from_slice.ensures.after
    _ _ h.taken h.put _ _ d.taken d.put in
    omega (arith, r.left, r.fits)

pub put_bytes-at-requires-3 : goal.put_bytes-at-requires-3
put_bytes-at-requires-3 g c =
    let a = c.args in
    let fit = leb-true _ (length a.out.now) (sym c.fits.ensures ∙ c.if-not-fits.false) in
    let h = c.put_bytes-at.ensures in
    let d = c.put_bytes-at-2.ensures in
    let r = three g.C.Code.code a.header.now a.«data».now a.trailer.now a.start.now a.end.now a.out.now _ fit c.copy_from_slice.ensures.after
    _ _ h.taken h.put _ _ d.taken d.put in
    omega (arith, r.left, r.fits, r.long, length-append (hide g.C.Code.code a.trailer.now) a.end.now)

pub overflow_add-at-3 : goal.overflow_add-at-3
overflow_add-at-3 g c =
    let a = c.args in
    let fit = leb-true _ (length a.out.now) (sym c.fits.ensures ∙ c.if-not-fits.false) in
    let h = c.put_bytes-at.ensures in
    let d = c.put_bytes-at-2.ensures in
    let t = c.put_bytes-at-3.ensures in
    let r = four g.C.Code.code a.header.now a.«data».now a.trailer.now a.start.now a.end.now a.out.now _ fit c.copy_from_slice.ensures.after
    _ _ h.taken h.put _ _ d.taken d.put _ _ t.taken t.put in
    omega (arith, r.left, r.fits)

pub overflow_add-total : goal.overflow_add-total
overflow_add-total g c =
    let a = c.args in
    let fit = leb-true _ (length a.out.now) (sym c.fits.ensures ∙ c.if-not-fits.false) in
    let h = c.put_bytes-at.ensures in
    let d = c.put_bytes-at-2.ensures in
    let t = c.put_bytes-at-3.ensures in
    let r = four g.C.Code.code a.header.now a.«data».now a.trailer.now a.start.now a.end.now a.out.now _ fit c.copy_from_slice.ensures.after
    _ _ h.taken h.put _ _ d.taken d.put _ _ t.taken t.put in
    omega (arith, r.left, r.fits)

pub slice_bounds-copy_from_slice-end-3 : goal.slice_bounds-copy_from_slice-end-3
slice_bounds-copy_from_slice-end-3 g c =
    let a = c.args in
    let fit = leb-true _ (length a.out.now) (sym c.fits.ensures ∙ c.if-not-fits.false) in
    let h = c.put_bytes-at.ensures in
    let d = c.put_bytes-at-2.ensures in
    let t = c.put_bytes-at-3.ensures in
    let r = four g.C.Code.code a.header.now a.«data».now a.trailer.now a.start.now a.end.now a.out.now _ fit c.copy_from_slice.ensures.after
    _ _ h.taken h.put _ _ d.taken d.put _ _ t.taken t.put in
    omega (arith, r.left, r.fits, r.long)

pub returns : goal.returns
returns g c =
    let a = c.args in
    let fit = leb-true _ (length a.out.now) (sym c.fits.ensures ∙ c.if-not-fits.false) in
    let h = c.put_bytes-at.ensures in
    let d = c.put_bytes-at-2.ensures in
    let t = c.put_bytes-at-3.ensures in
    let at = length a.start.now + c.put_bytes-at.result + c.put_bytes-at-2.result + c.put_bytes-at-3.result in
    let r = four g.C.Code.code a.header.now a.«data».now a.trailer.now a.start.now a.end.now a.out.now _ fit c.copy_from_slice.ensures.after
    _ _ h.taken h.put _ _ d.taken d.put _ _ t.taken t.put in
    let e = five g.C.Code.code a.header.now a.«data».now a.trailer.now a.start.now a.end.now a.out.now _ fit c.copy_from_slice.ensures.after
    _ _ h.taken h.put _ _ d.taken d.put _ _ t.taken t.put _
    (part_copied c.put_bytes-at-3.new.out a.end.now _ at (at + length a.end.now - at) (omega (arith, r.left, r.fits, r.long)) (omega arith) c.copy_from_slice-2.ensures.after) in
    stored_so _ a.out.now 0 _ _ (omega (arith, e.left)) (omega (arith, e.left, e.fits)) (run_end e refl)
