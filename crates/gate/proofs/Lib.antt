-- `Steps`: what a step may do, and what follows for any order of steps. `Sendable`: replies. `Theorems`: the claims.
pub mod Steps
pub mod Sendable
pub mod Theorems
