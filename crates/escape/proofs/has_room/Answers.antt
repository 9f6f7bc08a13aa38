use Rattle.std.proofs.Common.{◌≡◌, ◌+◌, length, sym, arith, rules, le-leb}
use Rattle.escape.specs.Code.{hide}
use Rattle.escape.proofs.Lawful.{hide_short}
use Rattle.escape.proofs.has_room.Goals as goal

-- no byte takes more than two
pub returns-then-bytes-room : goal.returns-then-bytes-room
returns-then-bytes-room g c =
    let m = g.C.Code in
    let a = c.args in
    let half = c.if-bytes-room.true in
    let room : a.at + c.in-Some.room ≡ a.memory = search rules in
    let most = hide_short m.code g.met.C.Code.lawful a.bytes.now in
    rw (le-leb _ _ half) (sym (le-leb (a.at + length (hide m.code a.bytes.now)) a.memory (omega (arith, most, half, room))))
