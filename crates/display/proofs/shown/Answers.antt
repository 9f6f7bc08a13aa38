use native.Mathlib.Omega.{arith}
use Rattle.display.proofs.Places.{shown_is}
use Rattle.display.proofs.shown.Goals as goal

pub returns : goal.returns
returns c = rw (c.place.ensures, c.place-2.ensures) (shown_is c.args.value (omega arith))
