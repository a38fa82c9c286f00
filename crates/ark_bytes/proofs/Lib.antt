-- Lemmas of this crate, beside those of `ark_math_formats`.
pub mod NumberBytes
pub mod ReadBack
pub mod Reading
pub mod Transfer
pub mod Writing
pub mod Unfinished
