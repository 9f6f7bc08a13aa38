-- A reader checks the link in this order: its messages and frames, the rules of its receiver, what its functions answer, and what is claimed.
-- `Steps` is for private functions.
pub mod Frame
pub mod Rules
pub mod Contract
pub mod Claims
pub mod Steps
