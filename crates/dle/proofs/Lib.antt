-- `Passed` has what the tests at the end of a frame say, `Body` the bodies of messages, `Bytes` that frames are bytes, `OnByte` what each byte does
-- by the rules, `Readback` that frames read back, `Lawful` that the link is lawful, `Numbers`, `Places` which numbers it gives and what it leaves in
-- the store, `Theorems` the claims. `Steps` and `Passing` are for the functions of the receiver.
pub mod Passed
pub mod Body
pub mod Typed
pub mod Bytes
pub mod OnByte
pub mod Readback
pub mod Lawful
pub mod Numbers
pub mod Places
pub mod Theorems
pub mod Steps
pub mod Passing
