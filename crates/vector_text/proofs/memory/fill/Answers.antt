use Rattle.std.proofs.Common.{sym, ◌∙◌, arith, length}
use Rattle.vector_text.specs.Laid.{byte_of, laid}
use Rattle.vector_text.proofs.Laid.{length-laid, laid-at}
use Rattle.vector_text.proofs.Stored.{stored_none, stored_next, stored_all, over-all}
use Rattle.vector_text.proofs.memory.fill.Goals as goal

pub loop-k-init : goal.loop-k-init
loop-k-init c =
    let a = c.args in
    stored_none (omega (arith, length-laid (byte_of a.content) 0 (length a.out.now)))

pub loop-k-preserved : goal.loop-k-preserved
loop-k-preserved c =
    let l = c.loop-k in
    let a = c.args in
    let f = byte_of a.content in
    let n = length a.out.now in
    let byte = laid-at f n l.k (omega (arith, l.invariant.long)) in
    stored_next l.invariant (omega (arith, length-laid f 0 n, l.invariant.long)) (c.byte_of.ensures ∙ sym byte)

pub returns : goal.returns
returns c =
    let l = c.loop-k in
    let a = c.args in
    let f = byte_of a.content in
    let n = length a.out.now in
    stored_all l.invariant (omega (arith, length-laid f 0 n, l.invariant)) ∙ over-all (laid f n) a.out.now (length-laid f 0 n)
