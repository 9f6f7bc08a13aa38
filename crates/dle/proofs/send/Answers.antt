use Rattle.std.proofs.Common.{List, ℕ, ◌++◌, ap, ◌∙◌, append-nil}
use Rattle.framing.specs.Answer.{stored_at}
use Rattle.dle.specs.Frame.{enclose}
use Rattle.dle.proofs.send.Goals as goal

pub returns : goal.returns
returns c =
    let a = c.args in
    c.enclose_into.ensures ∙ ap (λ (d : List ℕ). stored_at (enclose (a.header.now ++ d)) a.out.now 0) (append-nil a.«data».now)
