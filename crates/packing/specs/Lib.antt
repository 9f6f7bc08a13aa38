pub mod Seven
pub mod Packed
pub mod Unpacked
pub mod Contract
pub mod Claims
