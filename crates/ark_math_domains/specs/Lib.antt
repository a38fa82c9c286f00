-- Polynomials at the elements of a domain.
pub mod Points
