use native.Mathlib.Omega.{arith}
use Rattle.listing_text.specs.Text.{hex_byte}
use Rattle.listing_text.proofs.Puts.{emitted_none, emitted_room, emitted_next, emitted_all}
use Rattle.listing_text.proofs.put_hex.Goals as goal

pub loop-byte-init : goal.loop-byte-init
loop-byte-init c =
    let a = c.args in
    emitted_none hex_byte a.out.now a.at a.bytes.now

pub put_hex_byte-next-requires : goal.put_hex_byte-next-requires
put_hex_byte-next-requires c =
    let l = c.loop-byte in
    emitted_room hex_byte c.args.bytes.now l.byte-index l.invariant (omega arith) c.requires

pub loop-byte-preserved : goal.loop-byte-preserved
loop-byte-preserved c =
    let l = c.loop-byte in
    let bytes = c.args.bytes.now in
    emitted_next hex_byte bytes l.byte-index l.invariant (omega arith) c.put_hex_byte-next.ensures

pub returns : goal.returns
returns c =
    let bytes = c.args.bytes.now in
    let l = c.loop-byte in
    emitted_all hex_byte bytes l.byte-index l.invariant (omega arith)
