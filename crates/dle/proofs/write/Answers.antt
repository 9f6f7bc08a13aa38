use Rattle.std.proofs.Common.{ℕ, ◌≤◌, ◌∷◌, length, sym, ap, ◌∙◌, arith, le-leb}
use Rattle.framing.specs.Answer.{stored_at}
use Rattle.framing.proofs.Stored.{writes_stored}
use Rattle.dle.specs.Frame.{content, ok, enclose, frame}
use Rattle.dle.proofs.write.Goals as goal

pub returns-in-Ok : goal.returns-in-Ok
returns-in-Ok c =
    let a = c.args in
    let n = length a.«data».now in
    let t = c.in-Ok.ensures in
    let least : 1 ≤ n = omega (arith, t.1, c.if-count-gt0.true) in
    let most : n ≤ 255 = omega (arith, t.0) in
    c.send.ensures
    ∙ ap (λ (k : ℕ). stored_at (enclose (a.sequence ∷ a.node ∷ k ∷ a.«data».now)) a.out.now 0) t.1
    ∙ sym (writes_stored ok frame (content a.sequence a.node a.«data».now) a.out.now (rw (le-leb 1 n least, le-leb n 255 most)))
