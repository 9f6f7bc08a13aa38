-- `Every`, `Numbers`: lists of numbers. `Forms`: the type and the header. `Complement`, `Sound`: fares and numbers stand for each other. `Loops`: the
-- loops that store. `Copying`, `Writing`, `Viewing`: each way out of a call. `ReadBack`: the claims.
pub mod Every
pub mod Numbers
pub mod Forms
pub mod Complement
pub mod Sound
pub mod Loops
pub mod Copying
pub mod Writing
pub mod Viewing
pub mod ReadBack
