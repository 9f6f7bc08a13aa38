use Rattle.std.proofs.Common.{◌≡◌, ℕ, ◌+◌, ◌-◌, ap, arith}
use Rattle.vector_text.specs.Words.{words_from}
use Rattle.vector_text.proofs.Line.{words_none, words_end, words_next}
use Rattle.vector_text.proofs.words.start.Goals as goal

pub loop-passed-init : goal.loop-passed-init
loop-passed-init c =
    let all : c.args.k - 0 ≡ c.args.k = omega arith in
    (omega arith, ap (λ (n : ℕ). words_from n c.args.line.now) all)

pub returns-then-end-line : goal.returns-then-end-line
returns-then-end-line c =
    let l = c.loop-passed in
    let a = c.args in
    let f = c.find-end in
    let place = f.ensures.place l.invariant.0 in
    (omega arith, words_end a.line.now l.at f.result l.invariant.0 place a.k (a.k - l.passed) (omega arith) c.if-end-line.true l.invariant.1)

pub loop-passed-preserved : goal.loop-passed-preserved
loop-passed-preserved c =
    let l = c.loop-passed in
    let a = c.args in
    let f = c.find-end in
    let place = f.ensures.place l.invariant.0 in
    let left : a.k - l.passed - 1 ≡ a.k - (l.passed + 1) = omega arith in
    (omega arith, rw left at (words_next a.line.now l.at f.result l.invariant.0 place a.k (a.k - l.passed) (omega arith) l.invariant.1))

pub returns : goal.returns
returns c =
    let l = c.loop-passed in
    let a = c.args in
    (l.invariant.0, words_none a.line.now l.at a.k (a.k - l.passed) (omega arith) l.invariant.1)
