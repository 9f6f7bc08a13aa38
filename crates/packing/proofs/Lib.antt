-- From the bottom: `Inside` has parts of a list, `Groups` cuts lists into groups, `Seven` has seven-bit values, `Tops` top bits and
-- their places, `Group` one group, `Lengths` lists group by group, `Places` where each bit stands, `WellPacked` the test, `Laws` the theorems,
-- `Contract` what the calls answer and leave, `Refused` when unpacking is refused.
pub mod Inside
pub mod Groups
pub mod Seven
pub mod Tops
pub mod Group
pub mod Lengths
pub mod Places
pub mod WellPacked
pub mod Laws
pub mod Contract
pub mod Refused
