use Rattle.std.proofs.Common.{ap, ◌∙◌, arith, lt-ltb, ne_eqb}
use Rattle.mdu.specs.Rules.{on_byte}
use Rattle.mdu.specs.Contract.{known_state, phase_of}
use Rattle.mdu.specs.Steps.{ByRules}
use Rattle.mdu.proofs.Known.{known_next}
use Rattle.mdu.proofs.MduLink.step_in.Goals as goal

pub returns-then-state-lt6-clause-ready : goal.returns-then-state-lt6-clause-ready
returns-then-state-lt6-clause-ready c =
    let a = c.args in
    let by : ByRules a.state (on_byte (phase_of a.state a.store.now) a.byte) c.header_byte.result =
    simp (ne_eqb _ 0 c.if-state-eq0.false, lt-ltb _ 6 c.if-state-lt6.true) c.header_byte.ensures.stepped in
    (ap known_state by.state ∙ known_next a.state a.store.now a.byte c.requires.0.0 c.requires.0.1, omega (arith, c.header_byte.auto.store, c.requires.0.1))
