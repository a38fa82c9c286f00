-- Lemmas of this crate: what is absorbed, and that challenges follow from it.
pub mod Absorbed
pub mod Determined
pub mod SentAlike
