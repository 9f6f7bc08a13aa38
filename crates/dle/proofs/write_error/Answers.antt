use mathlib.Core.Path.{refl, sym, ◌∙◌}
use Rattle.framing.proofs.Stored.{writes_stored}
use Rattle.dle.specs.Frame.{error, ok, frame}
use Rattle.dle.proofs.write_error.Goals as goal

pub returns : goal.returns
returns c =
    let a = c.args in
    c.send.ensures ∙ sym (writes_stored ok frame (error a.sequence a.node a.code) a.out.now refl)
