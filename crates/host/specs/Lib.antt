-- What the calls of a host written in C answer, and what is claimed of them.
pub mod Read
pub mod Write
pub mod Display
pub mod Steps
pub mod Claims
