-- Lemmas on polynomials in one variable, over plain variables.
pub mod Callers
pub mod Polynomials
