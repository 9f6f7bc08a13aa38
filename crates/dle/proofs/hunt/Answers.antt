use borrow.Author.Tests.{eq-eqb, ne_eqb}
use mathlib.Core.Path.{refl}
use Rattle.dle.proofs.hunt.Goals as goal

pub returns-then-byte-eq16 : goal.returns-then-byte-eq16
returns-then-byte-eq16 c =
    let a = c.args in
    let m = eq-eqb a.state.mode 0 c.requires in
    rw (eq-eqb a.byte 0x10 c.if-byte-eq16.true, c.reopen.ensures) (record { tells = refl; state = rw m })

pub returns-else-byte-eq16 : goal.returns-else-byte-eq16
returns-else-byte-eq16 c =
    let a = c.args in
    rw (ne_eqb a.byte 0x10 c.if-byte-eq16.false, c.add_noise.ensures) (record { tells = refl; state = refl })
