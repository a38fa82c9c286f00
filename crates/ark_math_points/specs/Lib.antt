-- Polynomials at points of a caller's own.
pub mod AtPoints
