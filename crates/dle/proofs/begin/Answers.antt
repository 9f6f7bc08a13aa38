use borrow.Author.Tests.{eq-eqb, ne_eqb}
use native.Mathlib.Omega.{arith}
use mathlib.Core.Path.{refl}
use Rattle.dle.proofs.begin.Goals as goal

pub returns-then-byte-eq2 : goal.returns-then-byte-eq2
returns-then-byte-eq2 c =
    let a = c.args in
    let m = ne_eqb a.state.mode 0 (omega arith) in
    rw (eq-eqb a.byte 0x02 c.if-byte-eq2.true, c.hold.ensures) (record { tells = refl; state = rw m })

pub returns-else-byte-eq2 : goal.returns-else-byte-eq2
returns-else-byte-eq2 c =
    let a = c.args in
    rw (ne_eqb a.byte 0x02 c.if-byte-eq2.false, c.add_noise.ensures) (record { tells = refl; state = refl })
