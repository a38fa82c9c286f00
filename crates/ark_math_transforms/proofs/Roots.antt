-- Sums of the powers of a root of unity.
pub mod Orthogonal
