use Rattle.vector_text.proofs.Line.{word_is}
use Rattle.vector_text.proofs.words.word.Goals as goal

pub returns : goal.returns
returns c =
    let a = c.args in
    let s = c.start-from in
    word_is a.line.now s.result c.find-to.result s.ensures.0 (c.find-to.ensures.place s.ensures.0) a.k s.ensures.1
