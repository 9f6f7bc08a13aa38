pub mod Code
pub mod Lawful
pub mod Dle
pub mod Expansion
pub mod Claims
pub mod Form
pub mod Laws
pub mod Enclosed
