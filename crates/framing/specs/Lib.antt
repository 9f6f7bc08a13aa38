-- The numbers of refusals; answers; any receiver as a machine; a stream cut into segments; tests in their order; the receiver state; calls of a
-- writer; a link; what is claimed of every link; a host's call on a whole frame; which numbers a link refuses with; what a call leaves in the
-- store, and how much data it tells. `Passing` and `Open` serve the contracts of functions that links share.
pub mod Number
pub mod Answer
pub mod Receiver
pub mod Segment
pub mod Tests
pub mod State
pub mod Writer
pub mod Link
pub mod Claims
pub mod Whole
pub mod Call
pub mod Refusals
pub mod Places
pub mod Passing
pub mod Open
