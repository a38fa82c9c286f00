-- Lemmas of this crate: pairs moved by a factor, and places by their digits.
pub mod AtMultiples
pub mod Digits
