-- `Meanings`: the code of the link as its rules use it. `Passed`: the tests at the end of a frame. `Judge`: the end of a frame. `OnByte`: what each
-- byte does. `Readback`: a frame is read back. `Lawful`, `Refused`, `Numbers`, `Places` which numbers it gives and what it leaves in the store,
-- `Theorems`: the claims. `Count`, `Steps`, `Passing`: for the receiver's code.
pub mod Meanings
pub mod Passed
pub mod Judge
pub mod Typed
pub mod OnByte
pub mod Readback
pub mod Lawful
pub mod Numbers
pub mod Places
pub mod Refused
pub mod Theorems
pub mod Count
pub mod Steps
pub mod Passing
