-- A reader checks the crate in this order: the asking end, the responding end, the chain address, what the functions answer, and what is claimed.
pub mod Asking
pub mod Responder
pub mod Chain
pub mod Contract
pub mod Claims
