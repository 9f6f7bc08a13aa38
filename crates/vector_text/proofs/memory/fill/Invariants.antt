use lib.ListN.{length}
use Rattle.vector_text.specs.Laid.{byte_of, laid}
use Rattle.vector_text.proofs.Stored.{Stored}
use Rattle.vector_text.proofs.memory.fill.Given as goal

-- the first k bytes of the content are stored, and the others are still to come
abbrev pub invariant-loop-k : goal.invariant-loop-k
invariant-loop-k l = Stored l.initial.out (laid (byte_of l.content) (length l.initial.out)) l.k l.out
