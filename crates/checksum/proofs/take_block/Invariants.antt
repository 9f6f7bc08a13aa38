use Rattle.std.proofs.Common.{◌≡◌, ℕ, ◌<◌, ◌≤◌, length, get_or}
use Rattle.checksum.proofs.Braids.{stepped}
use Rattle.checksum.proofs.take_block.Given as goal

-- there are six registers: those below k are a block on, the others as they were
abbrev pub invariant-loop-k : goal.invariant-loop-k
invariant-loop-k l = record {
  six : length l.braid ≡ 6;
  taken : (i : ℕ) → i < l.k → get_or l.braid i 0 ≡ stepped 0xEDB88320 l.initial.braid l.block i;
  left : (i : ℕ) → l.k ≤ i → get_or l.braid i 0 ≡ get_or l.initial.braid i 0;
}
