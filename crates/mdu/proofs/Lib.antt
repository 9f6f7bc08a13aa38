-- `Passed`, `Entered`, `OnByte`, `Readback` and `Known` have the laws of the rules, `Lawful` gathers them, `Numbers` and `Places` say which numbers it
-- gives and what it leaves in the store, `Theorems` has what is claimed. `Store`, `Body`, `Sum` and `Written` are for the code.
pub mod Passed
pub mod Entered
pub mod OnByte
pub mod Readback
pub mod Known
pub mod Typed
pub mod Lawful
pub mod Numbers
pub mod Places
pub mod Theorems
pub mod Store
pub mod Body
pub mod Sum
pub mod Written
