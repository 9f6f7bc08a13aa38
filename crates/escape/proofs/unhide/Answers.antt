use Rattle.std.proofs.Common.{◌≡◌, ℕ, ◌+◌, ◌-◌, ◌^◌, ◌<◌, length, drop, sym, ap, ◌∙◌, arith}
use borrow.Rule.Slice.PartMut.{put_mid}
use Rattle.runs.specs.Runs.{before}
use Rattle.runs.proofs.Bytes.{part_rest}
use Rattle.escape.specs.Code.{unhide_up_to}
use Rattle.escape.specs.Form.{hidden_first}
use Rattle.escape.proofs.Reading.{splits, Reading, reading-start, reading_copied, reading_pair, reading_end, stops}
use Rattle.escape.proofs.unhide.Goals.{After-copy_before-n}
use Rattle.escape.proofs.unhide.Goals as goal

pub loop-count-init : goal.loop-count-init
loop-count-init g c = reading-start g.C.Code.code c.args.wire.now c.args.out.now (length c.args.out.now) (omega arith)

-- once the bytes that mean themselves are copied, they are read
copied : (g : _) (c : After-copy_before-n g)
    → let l = c.loop-count in let n = c.copy_before-n.result in let wire = c.args.wire.now in let d = c.args.out.now in
    Reading g.C.Code.code wire d (length d) (put_mid l.count (length l.out - l.count) l.out c.copy_before-n.new.out) (l.count + n) (l.used + n)
    × (l.count + n < length d → before g.C.Code.FIRST g.C.Code.ESCAPE (drop (l.used + n) wire) ≡ 0)
copied g c =
    let m = g.C.Code in
    let l = c.loop-count in
    let e = rw (c.FIRST.ensures, c.ESCAPE.ensures) at c.copy_before-n.ensures in
    let fits : length l.out < 2 ^ 64 = omega (arith, l.invariant.stored.long, c.well_formed.1.0.0) in
    reading_copied m.code m.FIRST m.ESCAPE (splits m.code m.FIRST m.ESCAPE m.TOP g.met.C.Code.lawful g.met.C.Code.hides)
    c.args.wire.now c.args.out.now l.out c.copy_before-n.new.out l.count l.used c.copy_before-n.result _ l.invariant (omega (arith, fits)) e.count e.stored

pub loop-count-preserved : goal.loop-count-preserved
loop-count-preserved g c =
    let wire = c.args.wire.now in
    let d = c.args.out.now in
    let k = (copied g (goal.at.loop-count-preserved g c).After-copy_before-n).0 in
    let i = c.loop-count.used + c.copy_before-n.result in
    let first = ap (hidden_first g.C.Code.code) (sym (part_rest wire i)) ∙ sym c.first_hidden.ensures ∙ c.in-Some.is in
    reading_pair g.C.Code.code wire d (length d) _ _ _ c.in-Some.byte k (omega (arith, k.some, c.if-count-out.false, k.stored.long)) first

pub returns-then-count-out : goal.returns-then-count-out
unfolding unhide_up_to
returns-then-count-out g c =
    let code = g.C.Code.code in
    let d = c.args.out.now in
    let i = c.loop-count.used + c.copy_before-n.result in
    let k = copied g (goal.at.returns-then-count-out g c).After-copy_before-n in
    let none : length d - (c.loop-count.count + c.copy_before-n.result) ≡ 0 = omega (arith, c.if-count-out.true, k.0.stored.long) in
    let r = reading_end code c.args.wire.now d (length d) _ _ _ k.0 (ap (λ (r : ℕ). unhide_up_to code r (drop i c.args.wire.now)) none) in
    record { count = r.0; used = r.1.0; put = r.1.1 }

pub returns-in_default : goal.returns-in_default
returns-in_default g c =
    let m = g.C.Code in
    let wire = c.args.wire.now in
    let d = c.args.out.now in
    let i = c.loop-count.used + c.copy_before-n.result in
    let k = copied g (goal.at.returns-in_default g c).After-copy_before-n in
    let none = ap (hidden_first m.code) (sym (part_rest wire i)) ∙ sym c.first_hidden.ensures ∙ c.in_default.is in
    let r = reading_end m.code wire d (length d) _ _ _ k.0
    (stops m.code m.FIRST m.ESCAPE (splits m.code m.FIRST m.ESCAPE m.TOP g.met.C.Code.lawful g.met.C.Code.hides) _ (drop i wire)
    (k.1 (omega (arith, k.0.some, c.if-count-out.false, k.0.stored.long))) none) in
    record { count = r.0; used = r.1.0; put = r.1.1 }
