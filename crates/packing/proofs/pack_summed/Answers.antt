use Rattle.std.proofs.Common.{ℕ, ◌+◌, List, length, sym, ◌∙◌, ap₂, arith, leb-false, leb-true}
use Rattle.packing.specs.Packed.{packed, packed_length}
use Rattle.packing.proofs.Lengths.{length-packed}
use Rattle.packing.proofs.Contract.{summed_done, summed_none}
use Rattle.packing.proofs.pack_summed.Goals as goal

pub pack_all-requires : goal.pack_all-requires
pack_all-requires c = leb-true _ _ (sym c.has_room.ensures ∙ c.if-has_room.true)

pub returns-then-has_room : goal.returns-then-has_room
returns-then-has_room c =
    let d : List ℕ = c.args.«data».now in
    let room = leb-true (c.args.at + packed_length (length d)) (length c.args.out.now) (sym c.has_room.ensures ∙ c.if-has_room.true) in
    ap₂ (λ (r : ℕ) (l : List ℕ). (r, l)) c.pack_all.ensures.total c.pack_all.ensures.stored
    ∙ sym (summed_done c.args.start (packed d) c.args.out.now c.args.at (omega (arith, room, length-packed d)))

pub returns-else-has_room : goal.returns-else-has_room
returns-else-has_room c =
    let d : List ℕ = c.args.«data».now in
    let short = leb-false (c.args.at + packed_length (length d)) (length c.args.out.now) (sym c.has_room.ensures ∙ c.if-has_room.false) in
    sym (summed_none c.args.start (packed d) c.args.out.now c.args.at (omega (arith, short, length-packed d)))
