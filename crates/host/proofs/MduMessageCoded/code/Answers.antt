use Rattle.runs.specs.Number.{little_endian}
use Rattle.host.specs.Read.{packed}
use Rattle.host.proofs.MduMessageCoded.code.Goals as goal

pub returns : goal.returns
unfolding packed little_endian
returns c = c.pack.ensures
