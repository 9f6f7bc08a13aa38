-- Of the rules: `Allowed` has what the tests of fields say, `Trailer` how a body and its trailer are parted, `Passed` all tests at the end of a frame, `OnByte` what a byte does, `Readback` that frames are read back, `Lawful` all that the
-- claims need, `Numbers`, `Places` which numbers it gives and what it leaves in the store, `Choice` what holds of frames with a CRC, `Theorems` the claims. Of the code: `Store` the store after a byte, `Judge` the end of a frame,
-- `Written` the frame in parts, `Passing` bytes that are passed at once.
pub mod Choice
pub mod Allowed
pub mod Typed
pub mod Trailer
pub mod Passed
pub mod OnByte
pub mod Readback
pub mod Lawful
pub mod Numbers
pub mod Places
pub mod Theorems
pub mod Store
pub mod Judge
pub mod Written
pub mod Passing
