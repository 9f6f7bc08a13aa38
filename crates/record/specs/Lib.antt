-- `Numbers`: lists of numbers of one size. `Form`: the decision over the type, and what is well formed. `Fares`: the fares of a record and the
-- record of fares. `Answers`: what each call answers and leaves. `Claims`: what is claimed besides. `Helpers`: what private functions find.
pub mod Numbers
pub mod Form
pub mod Fares
pub mod Answers
pub mod Claims
pub mod Helpers
