-- `Xor`, `Register`, `Linear`: a register. `CheckValue`: the law. `Run`: runs in parts. `Tables`: bits that leave by tables. `Braids`: registers side by
-- side. `SumRange`: the PCS sum.
pub mod Xor
pub mod Register
pub mod CheckValue
pub mod Linear
pub mod Run
pub mod Tables
pub mod Braids
pub mod SumRange
