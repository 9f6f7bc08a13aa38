-- `Lawful`: of a lawful code what is hidden reads back. `DleTheorems` and `ExpansionTheorems` have this of each code, and its own claims.
-- `Reading`: what the loop that reads wire bytes keeps. `Gathered` and `Passing`: what a receiver makes of hidden bytes.
-- `Written`: a frame as it is written.
pub mod Lawful
pub mod DleTheorems
pub mod ExpansionTheorems
pub mod Reading
pub mod Gathered
pub mod Passing
pub mod Written
