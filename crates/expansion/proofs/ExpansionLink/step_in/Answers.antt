use Rattle.std.proofs.Common.{ap, ◌∙◌, arith}
use Rattle.expansion.proofs.Steps.{inside_taken}
use Rattle.expansion.proofs.ExpansionLink.step_in.Goals as goal

-- in an open frame, by the rules for what the byte means
pub returns-in_default-clause-leaves : goal.returns-in_default-clause-leaves
returns-in_default-clause-leaves c =
    let a = c.args in
    ap (λ x. x.0) (c.take_byte_in.ensures ∙ inside_taken a.state a.store.now a.byte (λ e. omega (arith, c.in_default, e)) c.requires)
