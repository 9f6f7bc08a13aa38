-- In the order in which a reader checks the crate: the profile, what a run is read as, the display's end, what the functions answer, the claims.
-- `Steps` serves the contract of a private function only.
pub mod Profile
pub mod Reading
pub mod End
pub mod Contract
pub mod Claims
pub mod Steps
