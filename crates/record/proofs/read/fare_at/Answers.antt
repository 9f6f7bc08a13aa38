use Prim.Native.Nat.{◌+◌, ◌*◌}
use native.Mathlib.Omega.{arith}
use Rattle.runs.proofs.Number.{sized, sized_lt}
use Rattle.record.specs.Form.{bytes_in}
use Rattle.record.proofs.Forms.{bytes_le, found-whole}
use Rattle.record.proofs.Loops.{within}
use Rattle.record.proofs.read.fare_at.Goals as goal

pub overflow_mul-width : goal.overflow_mul-width
overflow_mul-width g c = rw c.from-width.ensures (omega (arith, found-whole c.requires.0, within (bytes_in c.args.header.form.size) c.requires.1))

pub overflow_add-width : goal.overflow_add-width
overflow_add-width g c = rw c.from-width.ensures (omega (arith, found-whole c.requires.0, within (bytes_in c.args.header.form.size) c.requires.1))

pub from_number_at-requires : goal.from_number_at-requires
from_number_at-requires g c =
    let a = c.args in
    let size = bytes_in a.header.form.size in
    sized_lt a.bytes.now (5 + size * a.index) size _ (λ i. omega (arith, c.type_inv.bytes i)) (sized a.bytes.now (5 + size * a.index) size _
    (bytes_le a.header.form.size) (rw c.from-width.ensures at c.number_at.ensures))
