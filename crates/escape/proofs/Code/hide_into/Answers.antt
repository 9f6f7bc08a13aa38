use Rattle.std.proofs.Common.{◌+◌, length, sym, ◌∙◌, leb-true, leb-false}
use Rattle.framing.specs.Answer.{done}
use Rattle.framing.proofs.Stored.{stored_done, stored_refused}
use Rattle.escape.specs.Code.{hide}
use Rattle.escape.proofs.Code.hide_into.Goals as goal

pub returns-then-has_room : goal.returns-then-has_room
returns-then-has_room g c =
    let a = c.args in
    let run = hide g.Self.Code.code a.bytes.now in
    let p = c.put_bytes.ensures in
    (λ i. (done (p.taken i), p.put i))
    ∙ sym (stored_done run a.out.now a.at (leb-true (a.at + length run) (length a.out.now) (sym c.has_room.ensures ∙ c.if-has_room.true)))

pub returns-else-has_room : goal.returns-else-has_room
returns-else-has_room g c =
    let a = c.args in
    let run = hide g.Self.Code.code a.bytes.now in
    sym (stored_refused run a.out.now a.at (leb-false (a.at + length run) (length a.out.now) (sym c.has_room.ensures ∙ c.if-has_room.false)))
