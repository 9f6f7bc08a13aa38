use Rattle.std.proofs.Common.{◌/◌, ◌^◌, take, drop}
use Rattle.runs.proofs.Run.{Run}
use Rattle.packing.specs.Packed.{last_place}
use Rattle.packing.specs.Unpacked.{joined, unpacked_group}
use Rattle.packing.proofs.unpack_group.Given as goal

-- j data bytes are stored from place to on, and those from j on, each with its bit of tops, are still to come
abbrev pub invariant-loop-j : goal.invariant-loop-j
invariant-loop-j l =
    let p = drop l.from l.initial.store in
    Run l.initial.store l.to (unpacked_group l.k p) l.j (joined (l.tops / 2 ^ last_place l.k) (drop l.j (take l.k p))) l.store
