use mathlib.Core.Path.{ap, ◌∙◌}
use mathlib.Core.List.{List}
use Rattle.std.proofs.Common.{Bor, ℕ}
use Rattle.record.specs.Answers.{viewing}
use Rattle.record.proofs.Viewing.{view_of}
use Rattle.record.proofs.views.element_at.Goals as goal

pub returns : goal.returns
returns c =
    let v = c.view.result in
    let i = c.args.index in
    c.view_element.ensures
    ∙ (ap (λ (x : Bor (List ℕ)). viewing x.now v.kind v.count i) c.view.ensures.0 ∙ view_of c.args.bytes.now v.kind v.count i c.view.ensures.1)
