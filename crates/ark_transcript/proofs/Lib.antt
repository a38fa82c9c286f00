-- Lemmas of this crate: that what is hashed tells the calls, and that a challenge is one.
pub mod Spellings
pub mod Digests
pub mod WholeElements
pub mod Tries
