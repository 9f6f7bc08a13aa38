-- A reader checks the link in this order: its messages and frames, the rules of its receiver, and what its functions answer. `Steps` has what
-- the private functions answer.
pub mod Frame
pub mod Rules
pub mod Contract
pub mod Claims
pub mod Steps
