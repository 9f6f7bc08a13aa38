-- `Stored`: runs stored into lent memory. `Feed`, `Cutting`: any machine, fed and driven. `Segments`: the rules' segments. `Tests`: tests in their
-- order. `Calls`: lists of calls told by self-delimiting frames. `Byte`: what a link has to show of each byte. `Lawful`: what else, and the claims
-- from it. `Wire`: of what any calls leave. `Whole`: of a host's call. `Refusals`: the numbers. `Places`: the store. `States`, `Loop`, `Passing`,
-- `Called`, `Data`: for a link's code.
pub mod Numbers
pub mod Tests
pub mod Stored
pub mod Faults
pub mod Feed
pub mod Cutting
pub mod Segments
pub mod Calls
pub mod Byte
pub mod Lawful
pub mod Wire
pub mod Whole
pub mod Refusals
pub mod Places
pub mod States
pub mod Loop
pub mod Passing
pub mod Called
pub mod Data
