use mathlib.Core.Path.{sym}
use native.Mathlib.Omega.{arith}
use Rattle.framing.proofs.Stored.{stored_refused}
use Rattle.listing_text.specs.Text.{ascii, text, line, link}
use Rattle.listing_text.proofs.Puts.{puts_then, puts_line}
use Rattle.listing_text.proofs.link.Goals as goal

pub returns-then-out-lt7 : goal.returns-then-out-lt7
unfolding line text ascii
returns-then-out-lt7 c =
    let a = c.args in
    sym (stored_refused (line (link a.letter)) a.out.now 0 (omega arith))

pub returns : goal.returns
unfolding line text ascii
returns c =
    puts_line (puts_then (puts_then c.put_bytes-letter_at.ensures c.put_byte-last.ensures) c.put_byte.ensures)
    c.if-out-lt7.false
