use Rattle.std.proofs.Common.{◌≡◌, [], ◌∷◌, fold, take}
use Rattle.checksum.proofs.Braids.{braid_step}
use Rattle.checksum.proofs.after_long.Given as goal

-- the registers are those after the blocks before block-index
abbrev pub invariant-loop-block : goal.invariant-loop-block
invariant-loop-block l = l.braid ≡ fold (braid_step 0xEDB88320) (l.start ∷ 0 ∷ 0 ∷ 0 ∷ 0 ∷ 0 ∷ []) (take l.block-index l.before)
