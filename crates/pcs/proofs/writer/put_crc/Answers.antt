use Rattle.std.proofs.Common.{◌+◌, ◌-◌, ap, ◌∙◌, arith, set}
use native.Mathlib.Numerals.{add-three}
use Rattle.framing.proofs.Stored.{part_copied}
use Rattle.pcs.specs.Frame.{crc_bytes}
use Rattle.pcs.proofs.writer.put_crc.Goals as goal

pub returns : goal.returns
returns c =
    let a = c.args in
    let run = c.copy_from_slice.ensures.after ∙ c.crc_bytes.ensures in
    ap (λ l. set l (a.at + 3) 254) (part_copied a.out.now (crc_bytes a.value) _ a.at (a.at + 3 - a.at) (omega (arith, c.requires)) (omega arith) run)
    ∙ rw add-three
