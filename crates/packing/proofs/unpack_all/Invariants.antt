use Rattle.std.proofs.Common.{◌*◌, drop}
use Rattle.runs.proofs.Run.{Run}
use Rattle.packing.specs.Unpacked.{data_in_groups}
use Rattle.packing.proofs.Inside.{part}
use Rattle.packing.proofs.unpack_all.Given as goal

-- the data bytes of the first i groups are stored from place 0 on, and those of the packed bytes behind these groups are still to come
abbrev pub invariant-loop-i : goal.invariant-loop-i
invariant-loop-i l =
    let p = part l.initial.store l.from l.count in
    Run l.initial.store 0 (data_in_groups p) (7 * l.i) (data_in_groups (drop (8 * l.i) p)) l.store
