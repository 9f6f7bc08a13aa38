use Rattle.std.proofs.Common.{ℕ, ◌/◌, ap, ◌∙◌, lit<}
use native.Mathlib.Nat.{mod-lt}
use lib.Bits.{bit_xor}
use Rattle.checksum.proofs.Linear.{shifts_split}
use Rattle.checksum.proofs.half_step.Goals as goal

pub returns : goal.returns
returns c =
    let x = c.args.c in
    ap (λ (y : ℕ). bit_xor y (x / 16)) (c.from.ensures ∙ c.table16.ensures _ (mod-lt x (lit< tt))) ∙ shifts_split 0xA001 4 x
