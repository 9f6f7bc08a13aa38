-- A reader checks the link in this order: its messages and frames, the rules of its receiver, and what its functions answer. `Steps` is for the
-- private functions.
pub mod Frame
pub mod Rules
pub mod Contract
pub mod Claims
pub mod Steps
