use Rattle.std.proofs.Common.{◌*◌, drop}
use Rattle.runs.proofs.Run.{Run}
use Rattle.packing.specs.Packed.{packed}
use Rattle.packing.proofs.pack_all.Given as goal

-- the packed bytes of the first i groups are stored from place at on, and those of the data behind these groups are still to come
abbrev pub invariant-loop-i : goal.invariant-loop-i
invariant-loop-i l = Run l.initial.out l.at (packed l.data) (8 * l.i) (packed (drop (7 * l.i) l.data)) l.out
