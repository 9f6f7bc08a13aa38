use Rattle.std.proofs.Common.{sym, ap, ◌∙◌, nat_eq, true, false}
use Rattle.std.specs.List.{ends_with}
use Rattle.pcs.specs.Frame.{crc_bytes}
use Rattle.pcs.proofs.Passed.{wrong_sum, by_crc, plain_right}
use Rattle.pcs.proofs.check_as.Goals as goal
use Rattle.pcs.proofs.check_as.Goals.{else-crc-via-then-crc+else-not-ends_with, else-crc-via-else-crc}

pub returns-then-trailer-sum : goal.returns-then-trailer-sum
returns-then-trailer-sum c =
    let s = c.split_at in
    wrong_sum c.args.gathered.now c.args.crc _ s.result.0.now s.result.1.now c.trailing-trailing.ensures c.if-count-trailing.false c.else-not-crc.either
    s.ensures.front s.ensures.back (λ e. c.if-trailer-sum.true (e ∙ sym c.sum.ensures))

pub returns-then-not-ends_with : goal.returns-then-not-ends_with
returns-then-not-ends_with c =
    let s = c.split_at in
    let v = c.crc_bytes.ensures ∙ ap crc_bytes c.crc16.ensures in
    by_crc c.args.gathered.now c.args.crc _ s.result.0.now s.result.1.now c.trailing-trailing.ensures c.if-count-trailing.false c.else-not-crc.either
    s.ensures.front s.ensures.back false c.if-crc.true (c.if-trailer-sum.false ∙ c.sum.ensures)
    (sym c.if-not-ends_with.true ∙ c.ends_with.ensures.value ∙ ap (ends_with nat_eq s.result.1.now) v)

pub returns : goal.returns
returns c =
    let s = c.split_at in
    elim c.else-crc.branch [
      | else-crc-via-then-crc+else-not-ends_with w ↦
          by_crc c.args.gathered.now c.args.crc _ s.result.0.now s.result.1.now c.trailing-trailing.ensures c.if-count-trailing.false c.else-not-crc.either
          s.ensures.front s.ensures.back true w.if-crc.true (c.if-trailer-sum.false ∙ c.sum.ensures)
          (sym w.if-not-ends_with.false ∙ w.ends_with.ensures.value ∙ ap (ends_with nat_eq s.result.1.now) (w.crc_bytes.ensures ∙ ap crc_bytes w.crc16.ensures))
      | else-crc-via-else-crc w ↦
          plain_right c.args.gathered.now c.args.crc _ s.result.0.now s.result.1.now c.trailing-trailing.ensures c.if-count-trailing.false c.else-not-crc.either
          s.ensures.front s.ensures.back w.if-crc.false (c.if-trailer-sum.false ∙ c.sum.ensures)
    ]
