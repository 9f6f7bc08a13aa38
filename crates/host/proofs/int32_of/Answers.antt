use Rattle.std.proofs.Common.{◌^◌, ◌<◌, arith}
use mir.Syntax.{w32}
use mir.ValLaws.{to_z_pos}
use Rattle.host.proofs.Signed.{minus_fits, minus_value}
use Rattle.host.proofs.int32_of.Goals as goal

pub overflow_cast-result : goal.overflow_cast-result
overflow_cast-result c = record { sfits = rw c.in-Ok.is at c.requires }

pub returns-in-Ok : goal.returns-in-Ok
returns-in-Ok c =
    let short : c.in-Ok.n < 2 ^ 31 = rw c.in-Ok.is at c.requires in
    rw c.in-Ok.is (to_z_pos w32 _ short)

pub returns-in-Err : goal.returns-in-Err
returns-in-Err c = rw (c.in-Err.is, ← c.from.ensures) (minus_value c.from.result (omega arith))

pub overflow_sub-result : goal.overflow_sub-result
overflow_sub-result c = minus_fits c.from.result (omega arith)
