use Rattle.std.proofs.Common.{drop}
use Rattle.runs.proofs.Run.{Run}
use Rattle.escape.specs.Code.{hide}
use Rattle.escape.proofs.put_bytes.Given as goal

-- the first n wire bytes are stored from place at on, and those of the bytes from byte-index on are still to come
abbrev pub invariant-loop-byte : goal.invariant-loop-byte
invariant-loop-byte g l =
    let code = g.C.Code.code in Run l.initial.out l.at (hide code l.bytes) l.n (hide code (drop l.byte-index l.bytes)) l.out
