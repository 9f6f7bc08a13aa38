use mathlib.Core.Path.{ap, ◌∙◌}
use lib.ListN.{length-set}
use lib.Seq.{sets}
use Rattle.runs.specs.Number.{bytes_of}
use Rattle.record.proofs.Loops.{put_header}
use Rattle.record.proofs.writer.put_header.Goals as goal

pub shape_of-out : goal.shape_of-out
shape_of-out c = c.put_number-2.auto.out ∙ c.put_number.auto.out ∙ simp length-set

pub returns : goal.returns
returns c =
    let a = c.args in
    c.put_number-2.ensures ∙ ap (λ x. sets x 3 (bytes_of 2 a.count)) (rw c.from.ensures at c.put_number.ensures)
    ∙ put_header a.out.now a.kind a.address a.count
