use Rattle.host.proofs.crc_bit.Goals as goal

pub returns-then-crc : goal.returns-then-crc
returns-then-crc c = rw c.if-crc.true

pub returns-else-crc : goal.returns-else-crc
returns-else-crc c = rw c.if-crc.false
