use Rattle.std.proofs.Common.{drop}
use Rattle.runs.proofs.Run.{Run}
use Rattle.mdu.proofs.writer.put_bytes.Given as goal

-- the first i bytes are stored from place at on, and those from i on are still to come
abbrev pub invariant-loop-i : goal.invariant-loop-i
invariant-loop-i l = Run l.initial.out l.at l.bytes l.i (drop l.i l.bytes) l.out
