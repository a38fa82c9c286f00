-- Lemmas of this crate.
pub mod Lanes
