use Prim.Native.Nat.{ℕ}
use mathlib.Core.Path.{refl, ap₂, ◌∙◌}
use Rattle.record.specs.Form.{header_of}
use Rattle.record.proofs.views.view.Goals as goal
use Rattle.record.proofs.views.view.Goals.{in-Ok, in-Err}

pub returns : goal.returns
unfolding header_of
returns c =
    elim c.match-header_of.branch [
      | in-Ok w ↦ let f = w.in-Ok.ensures in (refl, w.kind-is ∙ rw f.good (ap₂ (λ (k n : ℕ). (k, n)) f.kind_is f.count_is))
      | in-Err w ↦ (refl, w.kind-is ∙ rw w.in-Err.ensures.0)
    ]
