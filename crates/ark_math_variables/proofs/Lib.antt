-- Lemmas on polynomials in several variables and on multilinear extensions, over plain variables.
pub mod Polynomials
