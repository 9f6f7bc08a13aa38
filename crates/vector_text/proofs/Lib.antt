pub mod Counted
pub mod Stored
pub mod Laid
pub mod Line
