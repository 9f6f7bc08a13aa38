use Rattle.std.proofs.Common.{refl, eq-eqb}
use Rattle.runs.specs.Runs.{each}
use Rattle.expansion.proofs.hunt.Goals as goal

pub returns-then-byte-eq253 : goal.returns-then-byte-eq253
unfolding each
returns-then-byte-eq253 c =
    let a = c.args in
    let m = eq-eqb a.state.mode 0 c.requires in
    rw (eq-eqb a.byte 0xFD c.if-byte-eq253.true, c.reopen.ensures) (record { tells = refl; state = rw m })
