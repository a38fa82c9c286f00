-- Lemmas of this crate: polynomials by their values at 0, 1, .., d, the true polynomial of a round, and rounds that are
-- accepted.
pub mod BoundTables
pub mod TwoTables
pub mod Products
pub mod Steps
pub mod Factors
pub mod ValuesThrough
pub mod TrueRounds
pub mod EntryTables
pub mod Accepted
pub mod Verified
pub mod AtMost
pub mod Vectors
pub mod Unlucky
pub mod Believed
pub mod Embeddings
