use Rattle.std.proofs.Common.{◌≡◌, drop}
use Rattle.runs.proofs.Run.{Run}
use Rattle.packing.specs.Packed.{tops_after, packed_group}
use Rattle.packing.proofs.Group.{still}
use Rattle.runs.specs.Total.{total_from}
use Rattle.packing.proofs.pack_group.Given as goal

-- top, followed by the top bits from j on, gives all top bits;
-- j bytes are stored from place at on, and the low bits of the bytes from j on and the byte of the top bits are still to come;
-- the total, carried on over these, is that of the group
abbrev pub invariant-loop-j : goal.invariant-loop-j
invariant-loop-j l =
    (tops_after l.top (drop l.j l.g) ≡ tops_after 0 l.g)
    × Run l.initial.out l.at (packed_group l.g) l.j (still l.g (drop l.j l.g)) l.out
    × (total_from l.total (still l.g (drop l.j l.g)) ≡ total_from l.start (packed_group l.g))
