-- Sums of products of tables over lists of words, what proves them, and the field of the challenges.
pub mod Challenges
pub mod Coefficients
pub mod Sums
pub mod Read
pub mod Faults
pub mod Proofs
