-- A subgroup's elements in bit-reversed order, and the values of polynomials over blocks of them.
pub mod Blocks
