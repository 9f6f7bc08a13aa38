use Rattle.std.proofs.Common.{arith}
use Rattle.runs.proofs.Run.{more-over}
use Rattle.mdu.proofs.receiver.last_byte.Goals as goal

pub returns-clause-stored : goal.returns-clause-stored
returns-clause-stored c = more-over c.args.store.now c.args.state.base.count c.args.byte (omega arith)
