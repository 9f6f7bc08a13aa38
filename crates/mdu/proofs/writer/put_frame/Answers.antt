use Rattle.std.proofs.Common.{◌≡◌, ◌/◌, ◌%◌, [], ◌∷◌, ap, ◌∙◌, arith}
use Rattle.mdu.specs.Frame.{trailer}
use Rattle.mdu.proofs.Written.{parts_copied}
use Rattle.mdu.proofs.writer.put_frame.Goals as goal

pub returns : goal.returns
returns c =
    let a = c.args in
    let check = c.crc16-check.result in
    let high : check / 256 % 256 ≡ check / 256 = omega arith in
    parts_copied (record { address = a.address; body = a.body.now }) a.out.now _ _ _ _ c.requires.1 (omega arith)
    (c.copy_from_slice.ensures.after ∙ c.header.ensures) c.put_bytes.ensures (c.copy_from_slice-2.ensures.after ∙ c.to_be_bytes.ensures ∙ (λ i. high i ∷ check % 256 ∷ []) ∙ ap trailer c.crc16-check.ensures)
