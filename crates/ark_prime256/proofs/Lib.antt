-- Lemmas of this crate, beside those of `ark_base`.
pub mod Rows
pub mod Element
pub mod WordBytes
pub mod Constants
pub mod ElementBytes
pub mod Draws
pub mod Halvings
pub mod Inverses
pub mod FourWords
pub mod Numerals
