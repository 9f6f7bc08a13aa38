use native.Mathlib.Omega.{arith}
use Rattle.listing_text.specs.Text.{ascii, text, line}
use Rattle.listing_text.proofs.Puts.{puts_then}
use Rattle.listing_text.proofs.Lines.{length_message}
use Rattle.listing_text.proofs.put_message.Goals as goal
use Rattle.listing_text.proofs.put_message.Goals.{Start}

pub put_bytes-field_at-requires : goal.put_bytes-field_at-requires
put_bytes-field_at-requires c = omega (arith, length_message c.args.field c.args.«data».now)

pub put_decimal-space_at-requires : goal.put_decimal-space_at-requires
put_decimal-space_at-requires c =
    rw c.from.ensures (omega (arith, length_message c.args.field c.args.«data».now))

pub put_byte-length_at-requires : goal.put_byte-length_at-requires
put_byte-length_at-requires c = omega (arith, rw c.from.ensures at c.put_decimal-space_at.ensures, length_message c.args.field c.args.«data».now)

pub put_decimal-data_at-requires : goal.put_decimal-data_at-requires
put_decimal-data_at-requires c =
    omega (arith, rw c.from.ensures at c.put_decimal-space_at.ensures, length_message c.args.field c.args.«data».now)

pub put_shown-end-requires : goal.put_shown-end-requires
put_shown-end-requires c =
    omega (arith, rw c.from.ensures at c.put_decimal-space_at.ensures, length_message c.args.field c.args.«data».now)

pub put_byte-requires : goal.put_byte-requires
put_byte-requires c =
    omega (arith, rw c.from.ensures at c.put_decimal-space_at.ensures, length_message c.args.field c.args.«data».now)

pub returns : goal.returns
unfolding line text ascii
returns c =
    puts_then
    (puts_then
    (puts_then
    (puts_then (puts_then c.put_bytes-field_at.ensures (rw c.from.ensures at c.put_decimal-space_at.ensures)) c.put_byte-length_at.ensures)
    c.put_decimal-data_at.ensures)
    c.put_shown-end.ensures)
    c.put_byte.ensures
