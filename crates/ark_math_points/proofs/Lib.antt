-- Lemmas on polynomials at points of a caller's own, over plain variables.
pub mod AtPoints
