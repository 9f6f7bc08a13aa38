use lib.ListN.{length, take}
use Rattle.vector_text.specs.Words.{unhexed}
use Rattle.vector_text.proofs.Stored.{Stored}
use Rattle.vector_text.proofs.words.unhex.Given as goal

-- the first n bytes are stored, and the others are still to come
abbrev pub invariant-loop-n : goal.invariant-loop-n
invariant-loop-n l =
    Stored l.initial.out (take (length l.initial.out) (unhexed l.word)) l.n l.out
