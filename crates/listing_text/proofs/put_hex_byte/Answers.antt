use Rattle.listing_text.proofs.Puts.{puts_then}
use Rattle.listing_text.proofs.put_hex_byte.Goals as goal

pub returns : goal.returns
returns c =
    rw (c.digit.ensures, c.digit-2.ensures) at (puts_then c.put_byte-low.ensures c.put_byte.ensures)
