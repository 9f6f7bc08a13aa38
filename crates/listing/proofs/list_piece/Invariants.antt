use Rattle.std.proofs.Common.{◌≡◌, length}
use Rattle.listing.proofs.Drive.{Drives}
use Rattle.listing.proofs.list_piece.Given as goal

abbrev pub invariant-loop-rest : goal.invariant-loop-rest
invariant-loop-rest g l =
    (length l.store ≡ length l.initial.store) × (length l.text ≡ length l.initial.text)
    × Drives l.initial.text (l.initial.state, l.initial.store) l.piece (l.state, l.store) l.rest

abbrev pub decreases-loop-rest : goal.decreases-loop-rest
decreases-loop-rest g l = length l.rest
