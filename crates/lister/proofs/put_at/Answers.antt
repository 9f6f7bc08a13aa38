use Rattle.std.proofs.Common.{arith}
use Rattle.lister.proofs.Turns.{part_puts}
use Rattle.lister.proofs.put_at.Goals as goal

pub overflow_add-result : goal.overflow_add-result
overflow_add-result c =
    let a = c.args in
    let put = c.put_line.ensures in
    omega (arith, (part_puts a.text.now a.at c.count_of.result _ _ _ (put.fits c.requires.0) c.requires.1 c.count_of.ensures put.stored).1)

pub returns : goal.returns
returns c =
    let a = c.args in
    let put = c.put_line.ensures in
    let part = part_puts a.text.now a.at c.count_of.result _ _ _ (put.fits c.requires.0) c.requires.1 c.count_of.ensures put.stored in
    record { puts = part.0; within = part.1 }
