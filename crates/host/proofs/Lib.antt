-- For the code: `Read` has a read's answer, `Bounds` and `Signed` a writer's. Of the definitions: `Packed` has the parts of a message's number,
-- `Refusals` the numbers of refusals, `Parts` what the accessors tell over any link, `Fields` what the number packs on each; `Theorems` has the
-- claims, link by link, and `Orders` those of the display's calls.
pub mod Read
pub mod Bounds
pub mod Signed
pub mod Packed
pub mod Refusals
pub mod Parts
pub mod Fields
pub mod Theorems
pub mod Orders
