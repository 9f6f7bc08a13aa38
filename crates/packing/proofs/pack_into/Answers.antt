use Rattle.std.proofs.Common.{ℕ, ◌+◌, List, length, sym, ◌∙◌, ap₂, arith, leb-false, leb-true}
use Rattle.framing.specs.Answer.{done}
use Rattle.packing.specs.Packed.{packed, packed_length}
use Rattle.packing.proofs.Lengths.{length-packed}
use Rattle.framing.proofs.Stored.{stored_done, stored_refused}
use Rattle.packing.proofs.pack_into.Goals as goal

pub pack_all-requires : goal.pack_all-requires
pack_all-requires c = leb-true _ _ (sym c.has_room.ensures ∙ c.if-not-has_room.false)

pub returns : goal.returns
returns c =
    let d : List ℕ = c.args.«data».now in
    let room = leb-true (c.args.at + packed_length (length d)) (length c.args.out.now) (sym c.has_room.ensures ∙ c.if-not-has_room.false) in
    ap₂ (λ (m : ℕ) (l : List ℕ). (done m, l)) (c.packed_length.ensures ∙ sym (length-packed d)) c.pack_all.ensures.stored
    ∙ sym (stored_done (packed d) c.args.out.now c.args.at (omega (arith, room, length-packed d)))

pub returns-then-not-has_room : goal.returns-then-not-has_room
returns-then-not-has_room c =
    let d : List ℕ = c.args.«data».now in
    let short = leb-false (c.args.at + packed_length (length d)) (length c.args.out.now) (sym c.has_room.ensures ∙ c.if-not-has_room.true) in
    sym (stored_refused (packed d) c.args.out.now c.args.at (omega (arith, short, length-packed d)))
