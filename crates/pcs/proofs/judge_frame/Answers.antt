use Rattle.std.proofs.Common.{[], sym, ap, ◌∙◌, take, arith}
use Rattle.framing.specs.Number.{number_of}
use Rattle.framing.specs.Answer.{done, refused}
use Rattle.framing.proofs.Numbers.{passed_up}
use Rattle.pcs.specs.Contract.{with_data}
use Rattle.pcs.specs.Steps.{heard}
use Rattle.framing.specs.Answer.{outcome_of}
use Rattle.pcs.specs.declared.Message.{Message}
use Rattle.pcs.proofs.Passed.{passed, nine}
use Rattle.pcs.proofs.Judge.{told_with, judge-told, judge_stored}
use Rattle.pcs.proofs.judge_frame.Goals as goal

-- `check_frame` found no fault, so nine bytes at least are gathered, and as many packed ones as stated
pub numbers_of-numbers-requires : goal.numbers_of-numbers-requires
numbers_of-numbers-requires c =
    let g = take c.args.count c.args.store.now in
    nine g (passed g (sym c.in_ok-check_frame.ensures))

pub bounds-gathered-4 : goal.bounds-gathered-4
bounds-gathered-4 c =
    let g = take c.args.count c.args.store.now in
    let n = nine g (passed g (sym c.in_ok-check_frame.ensures)) in
    omega (arith, n)

pub bounds-gathered-5 : goal.bounds-gathered-5
bounds-gathered-5 c =
    let g = take c.args.count c.args.store.now in
    let n = nine g (passed g (sym c.in_ok-check_frame.ensures)) in
    omega (arith, n)

pub returns-in_err-length-clause-told : goal.returns-in_err-length-clause-told
returns-in_err-length-clause-told c =
    let f = c.in_err-length.field-0.0 in
    λ wire.
    ap (λ r. heard (outcome_of r)) (passed_up c.from_residual-in_err-length.result f c.from_residual-in_err-length.ensures)
    ∙ judge-told c.args.store.now c.args.count _ c.requires (sym c.in_ok-check_frame.ensures) c.stated_by-packed.ensures (refused (number_of f))
    c.unpack_in_place.new.store c.in_err-length.ensures wire

pub returns-in_err-length-clause-stored : goal.returns-in_err-length-clause-stored
returns-in_err-length-clause-stored c =
    let f = c.in_err-length.field-0.0 in
    λ wire. judge_stored c.args.store.now c.args.count _ c.requires (sym c.in_ok-check_frame.ensures) c.stated_by-packed.ensures (refused (number_of f))
    c.unpack_in_place.new.store c.in_err-length.ensures wire

-- the message is made of the numbers that `numbers_of` promises, read before, and of what `unpack_in_place` answers and leaves
pub returns-clause-told : goal.returns-clause-told
returns-clause-told c =
    let n = c.in_ok-length.length in
    λ wire.
    ap (λ (m : Message). told_with (with_data m []) (done n)) c.numbers_of-numbers.ensures
    ∙ judge-told c.args.store.now c.args.count _ c.requires (sym c.in_ok-check_frame.ensures) c.stated_by-packed.ensures (done n)
    c.unpack_in_place.new.store c.in_ok-length.ensures wire

pub returns-clause-stored : goal.returns-clause-stored
returns-clause-stored c =
    λ wire. judge_stored c.args.store.now c.args.count _ c.requires (sym c.in_ok-check_frame.ensures) c.stated_by-packed.ensures
    (done c.in_ok-length.length) c.unpack_in_place.new.store c.in_ok-length.ensures wire
