use Rattle.std.proofs.Common.{arith}
use Rattle.checksum.proofs.Braids.{block_taken}
use Rattle.checksum.proofs.take_block.Goals as goal

pub returns : goal.returns
returns c =
    let inv = c.loop-k.invariant in
    block_taken 0xEDB88320 c.args.braid.now c.loop-k.braid c.args.block.now c.told-braid inv.six c.told-block (λ i h. inv.taken i (omega arith))
