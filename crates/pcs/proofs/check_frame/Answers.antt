use Rattle.std.proofs.Common.{◌-◌, refl, sym, ◌∙◌, length}
use borrow.Author.Tests.{eq-eqb, ne_eqb}
use Rattle.framing.proofs.Numbers.{not_zero, passed_up}
use Rattle.pcs.specs.Rules.{stated}
use Rattle.pcs.proofs.Passed.{below_nine, checked, faults}
use Rattle.pcs.proofs.check_frame.Goals as goal

pub returns-then-gathered-lt9 : goal.returns-then-gathered-lt9
returns-then-gathered-lt9 c = sym (below_nine c.args.gathered.now c.if-gathered-lt9.true)

pub returns-in_err-check_trailer : goal.returns-in_err-check_trailer
returns-in_err-check_trailer c =
    let f = c.in_err-check_trailer.field-0.0 in
    rw (passed_up c.from_residual.result f c.from_residual.ensures)
    (sym (checked c.args.gathered.now c.crc_info-crc.result _ c.crc_info-crc.ensures c.in_err-check_trailer.ensures (not_zero f)))

-- `faults` has the last tests by the answers of `crc_info`, `check_trailer` and `trailing`; each of them, by the promise of the call it asks, says
-- which way they go there
pub returns-then-not-fields_ok : goal.returns-then-not-fields_ok
returns-then-not-fields_ok c =
    let g = c.args.gathered.now in
    sym (faults g c.crc_info-crc.result _ c.crc_info-crc.ensures c.in_ok-check_trailer.ensures refl
    ∙ rw (sym c.fields_ok.ensures ∙ c.if-not-fields_ok.true))

pub returns-then-stated_by-gathered : goal.returns-then-stated_by-gathered
returns-then-stated_by-gathered c =
    let g = c.args.gathered.now in
    let present = ne_eqb (stated g) (length g - c.trailing.result - 8) (λ e. c.if-stated_by-gathered.true (c.stated_by.ensures ∙ e)) in
    sym (faults g c.crc_info-crc.result c.trailing.result c.crc_info-crc.ensures c.in_ok-check_trailer.ensures c.trailing.ensures
    ∙ rw (sym c.fields_ok.ensures ∙ c.if-not-fields_ok.false, present))

pub returns : goal.returns
returns c =
    let g = c.args.gathered.now in
    let present = eq-eqb (stated g) (length g - c.trailing.result - 8) (sym c.stated_by.ensures ∙ c.if-stated_by-gathered.false) in
    sym (faults g c.crc_info-crc.result c.trailing.result c.crc_info-crc.ensures c.in_ok-check_trailer.ensures c.trailing.ensures
    ∙ rw (sym c.fields_ok.ensures ∙ c.if-not-fields_ok.false, present))
