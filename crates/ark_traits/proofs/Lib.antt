-- Lemmas of this crate, beside those of `ark_math`.
pub mod Inversions
pub mod WordPowers
