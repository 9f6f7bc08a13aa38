use Rattle.listing_text.specs.Text.{hex_byte}
use Rattle.listing_text.proofs.Puts.{Emitted}
use Rattle.listing_text.proofs.put_hex.Given as goal

-- the first bytes, as many as the loop has passed, are stored in hex from place at on, and next is the place behind them
abbrev pub invariant-loop-byte : goal.invariant-loop-byte
invariant-loop-byte l = Emitted hex_byte l.initial.out l.out l.at l.next l.bytes l.byte-index
