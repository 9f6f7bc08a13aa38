-- Of the code: `Loops` has what an order's data are read by, `Writing` the data that the writer hands on, `Places` the three places, `Serving` what the
-- end's functions answer. Of the definitions: `Profile` has orders and messages, each way; `Orders` their frames, written and read; `Numbers` the
-- numbers of refusals; `Served` what an order does; `Repeats` the same frame again; `Shows` what is shown after any calls; `Examples` document 000's
-- second example. `Theorems` has the claims.
pub mod Loops
pub mod Writing
pub mod Places
pub mod Serving
pub mod Profile
pub mod Orders
pub mod Numbers
pub mod Served
pub mod Repeats
pub mod Shows
pub mod Examples
pub mod Theorems
