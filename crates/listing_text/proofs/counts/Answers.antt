use mathlib.Core.Path.{sym}
use mathlib.Core.List.{◌++◌}
use native.Mathlib.Omega.{arith}
use lib.ListN.{length-append}
use Rattle.framing.proofs.Stored.{stored_refused}
use Rattle.listing_text.specs.Text.{ascii, line, noise, «open»}
use Rattle.listing_text.proofs.Puts.{puts_then, puts_line}
use Rattle.listing_text.proofs.Lines.{counts_steps, length_counts}
use Rattle.listing_text.proofs.counts.Goals as goal

pub returns-then-out-digit_count : goal.returns-then-out-digit_count
returns-then-out-digit_count c =
    let a = c.args in
    sym (stored_refused (line (noise a.noise) ++ line («open» a.held)) a.out.now 0
    (omega (arith, length_counts a.noise a.held, c.if-out-digit_count.true, rw c.from-2.ensures at c.digit_count-2.ensures, rw c.from.ensures at c.digit_count.ensures)))

pub returns : goal.returns
unfolding ascii
returns c =
    let a = c.args in
    rw (counts_steps a.noise a.held)
    (puts_line (puts_then (puts_then (puts_then (puts_then c.put_bytes-noise_at.ensures (rw c.from-3.ensures at c.put_decimal-word_at.ensures)) c.put_bytes-held_at.ensures)
    (rw c.from-4.ensures at c.put_decimal-last_at.ensures)) c.put_byte.ensures)
    (simp length-append (omega (arith, c.if-out-digit_count.false, rw c.from-2.ensures at c.digit_count-2.ensures, rw c.from.ensures at c.digit_count.ensures))))
