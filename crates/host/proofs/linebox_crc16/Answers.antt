use Rattle.host.proofs.linebox_crc16.Goals as goal

pub returns : goal.returns
returns c = c.crc16.ensures
