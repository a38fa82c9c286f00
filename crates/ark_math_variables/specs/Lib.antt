-- Polynomials in several variables: terms, lists of terms, multilinear extensions.
pub mod Multilinear
pub mod Multivariate
pub mod Term
