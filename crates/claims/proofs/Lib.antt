pub mod Demands
pub mod Withdrawn
pub mod Examples
