use Rattle.std.proofs.Common.{◌≡◌, ℕ, ◌+◌, ◌≤◌, length, sym, ap, ◌∙◌, arith}
use Rattle.framing.specs.Answer.{outcome_of}
use Rattle.framing.proofs.Numbers.{passed_up}
use Rattle.framing.proofs.Faults.{least_refused, least_passed}
use Rattle.framing.proofs.Stored.{writes_done, writes_short}
use Rattle.pcs.specs.Frame.{Message, ok, trailing, frame}
use Rattle.pcs.specs.Contract.{with_data}
use Rattle.pcs.proofs.Allowed.{kind_most, sendable}
use Rattle.pcs.proofs.Trailer.{trailing_range}
use Rattle.pcs.proofs.Written.{frame-length}
use Rattle.pcs.proofs.writer.write_message.Goals as goal
use Rattle.pcs.proofs.writer.write_message.Goals.{else-message-via-then-message+else-out-plain-lt3, else-message-via-else-message}
use Rattle.packing.specs.Packed.{packed_length}

-- n packed bytes; no frame is shorter than one without a CRC
module _ (m : Message) (n : ℕ) (e : n ≡ packed_length (length m.payload)) where
  counted : 10 + n + trailing m.crc ≡ length (frame m)
  counted = ap (λ (k : ℕ). 10 + k + trailing m.crc) e ∙ sym (frame-length m)

  least : 11 + n ≤ length (frame m)
  least = omega (arith, counted, (trailing_range m.crc).0)

-- Each grind asks only that check_write is told ok of the message, however it is worked out: edits of it are refused by that equation.
pub returns-in_err-check_write : goal.returns-in_err-check_write
returns-in_err-check_write c =
    let m = with_data c.args.message c.args.«data».now in
    let l = least m c.packed_length-packed.result c.packed_length-packed.ensures in
    let f = c.in_err-check_write.field-0.0 in
    ap (λ r. (outcome_of r, c.args.out.now)) (passed_up c.from_residual.result f c.from_residual.ensures)
    ∙ least_refused ok frame m c.args.out.now _ _ _ (grind arith) l c.check_write.ensures f c.in_err-check_write.was

pub returns-then-out-plain-lt3 : goal.returns-then-out-plain-lt3
returns-then-out-plain-lt3 c =
    let m = with_data c.args.message c.args.«data».now in
    let n = c.packed_length-packed.result in
    let l = least m n c.packed_length-packed.ensures in
    let p = least_passed ok frame m c.args.out.now _ _ _ (grind arith) l c.check_write.ensures _ c.in_ok-check_write.was in
    writes_short ok frame m c.args.out.now p.0 (omega (arith, counted m n c.packed_length-packed.ensures, ap trailing c.if-message.true, p.1))

pub put_frame-requires : goal.put_frame-requires
put_frame-requires c =
    let m = with_data c.args.message c.args.«data».now in
    let n = c.packed_length-packed.result in
    let l = least m n c.packed_length-packed.ensures in
    let p = least_passed ok frame m c.args.out.now _ _ _ (grind arith) l c.check_write.ensures _ c.in_ok-check_write.was in
    let room : 10 + n + trailing m.crc ≤ length c.args.out.now =
    elim c.else-message.branch [
      | else-message-via-then-message+else-out-plain-lt3 w ↦ omega (arith, p.1, ap trailing w.if-message.true)
      | else-message-via-else-message w ↦ omega (arith, p.1, ap trailing w.if-message.false)
    ] in
    let s = sendable m p.0 in
    (kind_most m.kind (length m.payload) s.kind, s.most, c.packed_length-packed.ensures, room)

pub returns : goal.returns
returns c =
    let m = with_data c.args.message c.args.«data».now in
    let n = c.packed_length-packed.result in
    let l = least m n c.packed_length-packed.ensures in
    let p = least_passed ok frame m c.args.out.now _ _ _ (grind arith) l c.check_write.ensures _ c.in_ok-check_write.was in
    let room : 10 + n + trailing m.crc ≤ length c.args.out.now =
    elim c.else-message.branch [
      | else-message-via-then-message+else-out-plain-lt3 w ↦ omega (arith, p.1, ap trailing w.if-message.true)
      | else-message-via-else-message w ↦ omega (arith, p.1, ap trailing w.if-message.false)
    ] in
    let k = ap (λ (t : ℕ). 10 + n + t) c.trailing.ensures ∙ counted m n c.packed_length-packed.ensures in
    writes_done ok frame m c.args.out.now _ _ p.0 k (omega (arith, c.trailing.ensures)) c.put_frame.ensures
