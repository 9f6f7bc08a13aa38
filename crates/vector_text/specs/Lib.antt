pub mod Counted
pub mod Laid
pub mod Words
pub mod Links
