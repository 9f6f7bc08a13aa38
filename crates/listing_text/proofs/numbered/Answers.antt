use mathlib.Core.Path.{sym}
use mathlib.Core.List.{[], ◌∷◌, ◌++◌}
use native.Mathlib.Omega.{arith}
use lib.ListN.{length-append}
use Rattle.framing.proofs.Stored.{stored_refused}
use Rattle.decimal.specs.Decimal.{decimal}
use Rattle.listing_text.proofs.Puts.{puts_then, puts_line}
use Rattle.listing_text.proofs.numbered.Goals as goal

pub returns-then-out-word : goal.returns-then-out-word
returns-then-out-word c =
    let a = c.args in
    sym (stored_refused (a.word.now ++ decimal a.n ++ (10 ∷ [])) a.out.now 0 (simp length-append (omega (arith, rw c.from.ensures at c.digit_count.ensures))))

pub returns : goal.returns
returns c =
    puts_line (puts_then (puts_then c.put_bytes-number_at.ensures (rw c.from-2.ensures at c.put_decimal-end.ensures)) c.put_byte.ensures)
    (simp length-append (omega (arith, c.if-out-word.false, rw c.from.ensures at c.digit_count.ensures)))
