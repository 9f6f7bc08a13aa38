use mathlib.Core.Path.{sym}
use native.Mathlib.Omega.{arith}
use Rattle.framing.proofs.Stored.{stored_refused}
use Rattle.listing_text.specs.Text.{line, message}
use Rattle.listing_text.proofs.Puts.{puts_line}
use Rattle.listing_text.proofs.Lines.{length_least, length_message}
use Rattle.listing_text.proofs.message.Goals as goal
use Rattle.listing_text.proofs.message.Goals.{then-out-data-via-then-out-data, then-out-data-via-else-out-data+then-out-message_length}

pub returns-then-out-data : goal.returns-then-out-data
returns-then-out-data c =
    let a = c.args in
    let d = a.«data».now in
    let refused = stored_refused (line (message a.field d)) a.out.now 0 in
    elim c.then-out-data.branch [
      | then-out-data-via-then-out-data w ↦ sym (refused (omega (arith, length_message a.field d, length_least d)))
      | then-out-data-via-else-out-data+then-out-message_length w ↦ sym (refused (omega arith))
    ]

pub returns : goal.returns
returns c =
    puts_line c.put_message.ensures (omega (arith, c.if-out-message_length.false, c.message_length.ensures))
