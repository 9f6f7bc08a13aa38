pub mod Crc
pub mod Tables
pub mod Braids
pub mod Sum
pub mod Claims
