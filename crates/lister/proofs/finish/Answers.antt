use Rattle.lister.proofs.Texts.{stored_nothing}
use Rattle.lister.specs.Feeding.{end_of}
use Rattle.lister.proofs.finish.Goals as goal

pub returns-in-Unread : goal.returns-in-Unread
unfolding end_of
returns-in-Unread c = rw (c.in-Unread.is, ← c.from.ensures) c.refused.ensures

pub returns-in-Reading : goal.returns-in-Reading
unfolding end_of
returns-in-Reading c = rw (c.in-Reading.is, ← c.noise.ensures, ← c.«open».ensures) c.counts.ensures

pub returns-in-Over : goal.returns-in-Over
unfolding end_of
returns-in-Over c = rw c.in-Over.is (stored_nothing _)
