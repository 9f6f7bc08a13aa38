use Rattle.std.proofs.Common.{ℕ, ap, sym, ◌∙◌}
use lib.Bits.{bit_xor}
use Rattle.checksum.specs.Crc.{shifts, byte_step}
use Rattle.checksum.proofs.Linear.{shifts_add}
use Rattle.checksum.proofs.byte_step.Goals as goal

pub returns : goal.returns
unfolding byte_step
returns c =
    c.half_step.ensures ∙ ap (shifts 0xA001 4) c.half_step-high.ensures ∙ sym (shifts_add 0xA001 4 4 _)
    ∙ ap (λ (b : ℕ). shifts 0xA001 8 (bit_xor c.args.c b)) c.from.ensures
