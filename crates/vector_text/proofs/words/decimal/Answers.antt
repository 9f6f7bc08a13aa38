use native.Mathlib.Omega.{arith}
use Rattle.vector_text.specs.Words.{parsed_decimal}
use Rattle.vector_text.proofs.Line.{decimal-next, decimal_end}
use Rattle.vector_text.proofs.words.decimal.Goals as goal

pub loop-b-preserved : goal.loop-b-preserved
loop-b-preserved c =
    let l = c.loop-b in
    let w = c.args.word.now in
    decimal-next w l.value c.with_digit-value.result l.b-index (parsed_decimal w) (omega arith) c.with_digit-value.ensures l.invariant

pub returns : goal.returns
returns c =
    let l = c.loop-b in
    let w = c.args.word.now in
    decimal_end w l.value l.b-index (parsed_decimal w) (omega arith) l.invariant
