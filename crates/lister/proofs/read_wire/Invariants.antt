use Rattle.lister.proofs.Wire.{Wire}
use Rattle.lister.specs.Receivers.{called_by}
use lib.ListN.{length}
use mathlib.Core.Path.{◌≡◌}
use Rattle.lister.proofs.read_wire.Given as goal

-- the store keeps its length; the calls so far have listed the piece up to its rest, as so many written bytes of text
abbrev pub invariant-loop-text : goal.invariant-loop-text
invariant-loop-text l =
    (length l.store ≡ length l.initial.store)
    × Wire called_by (l.initial.receiver, l.initial.store) l.piece l.initial.text (l.receiver, l.store) l.rest l.written l.text

abbrev pub decreases-loop-text : goal.decreases-loop-text
decreases-loop-text l = length l.rest
