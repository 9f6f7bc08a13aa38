use Rattle.std.proofs.Common.{◌≡◌, ℕ, ◌+◌, ◌-◌, ◌<◌, min, length, take, drop, refl, ap, ◌∙◌, arith, rules, length-take, length-drop}
use lib.Seq.{sets}
use borrow.Rule.Slice.PartMut.{put_mid}
use Rattle.escape.specs.Code.{unhide_up_to}
use Rattle.escape.proofs.Lawful.{most_read}
use Rattle.escape.proofs.Reading.{put_back}
use Rattle.escape.proofs.Code.unhide_into.Goals as goal

pub returns-in-Some-clause-put : goal.returns-in-Some-clause-put
returns-in-Some-clause-put g c =
    let code = g.Self.Code.code in
    let a = c.args in
    let out = a.out.now in
    let k = a.at + c.min.result - a.at in
    let left = c.in-Some.ensures in
    let part : length (take k (drop a.at out)) ≡ min a.most (length out - a.at) =
    omega (arith, length-take k (drop a.at out), length-drop a.at out, c.min.ensures, left) in
    ap (put_mid a.at k out) c.unhide.ensures.put
    ∙ put_back a.at k out (unhide_up_to code (length (take k (drop a.at out))) a.wire.now).0 (omega (arith, c.min.ensures, left))
    (omega (arith, c.min.ensures, left, part, most_read code (length (take k (drop a.at out))) a.wire.now))
    ∙ ap (λ (r : ℕ). sets out a.at (unhide_up_to code r a.wire.now).0) part

pub returns-in-None : goal.returns-in-None
unfolding unhide_up_to
returns-in-None g c =
    let a = c.args in
    let past : length a.out.now < a.at = search rules in
    let none : min a.most (length a.out.now - a.at) ≡ 0 = omega (arith, past) in
    rw none (record { count = refl; used = refl; put = refl })
