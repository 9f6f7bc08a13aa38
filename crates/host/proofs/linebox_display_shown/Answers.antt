use mathlib.Core.Path.{◌∙◌, ap}
use native.Mathlib.Omega.{arith}
use lib.ListN.{take}
use lib.Seq.{take_all}
use Rattle.runs.specs.Number.{little_endian}
use Rattle.display.specs.End.{shown_of}
use Rattle.display.proofs.Theorems.{shown-last}
use Rattle.host.proofs.linebox_display_shown.Goals as goal

pub returns : goal.returns
returns c =
    let v = c.args.value in
    c.number_at.ensures ∙ ap little_endian (ap (take 3) c.shown.ensures ∙ take_all 3 (shown_of v) (omega (arith, (shown-last v).0)))
