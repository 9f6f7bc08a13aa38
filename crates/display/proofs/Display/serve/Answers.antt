use Rattle.std.proofs.Common.{refl, ap, ◌∙◌}
use Rattle.framing.specs.Number.{number_of}
use Rattle.framing.specs.Answer.{done, refused}
use Rattle.framing.proofs.Numbers.{passed_up}
use Rattle.display.specs.End.{answer, refusal}
use Rattle.display.specs.Contract.{reply_of}
use Rattle.display.proofs.Serving.{served_own}
use Rattle.display.proofs.Display.serve.Goals as goal

pub returns-in_err-count : goal.returns-in_err-count
returns-in_err-count c =
    let n = number_of c.in_err-count.field-0.0 in
    ap (λ r. ((reply_of r, c.args.self.now), c.write.new.out)) (passed_up c.from_residual.result _ c.from_residual.ensures)
    ∙ served_own c.args.self.now c.args.order _ _ (refusal n, c.args.self.now) (refused n) c.requires.0 c.requires.1 c.requires.2 c.if-order-self.true refl
    c.in_err-count.ensures

pub returns-then-order-self : goal.returns-then-order-self
returns-then-order-self c =
    let n = c.in_ok-count.count in
    served_own c.args.self.now c.args.order _ _ (answer n, c.show.new.self) (done n) c.requires.0 c.requires.1 c.requires.2 c.if-order-self.true
    (λ i. (answer n, c.show.ensures i)) c.in_ok-count.ensures
