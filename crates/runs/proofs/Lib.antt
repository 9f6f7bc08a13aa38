-- `Cases` splits on a test, `Bytes` has lists of bytes, `Begins` runs that begin others, `Run` what a loop that stores a run keeps, `Each`
-- elements shown one after the other, `Number` numbers low byte first, `Before` the elements before the first mark, `Carried` totals carried on.
pub mod Cases
pub mod Bytes
pub mod Begins
pub mod Run
pub mod Each
pub mod Number
pub mod Before
pub mod Carried
