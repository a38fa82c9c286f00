-- Lemmas on polynomials at the elements of a domain, over plain variables.
pub mod Callers
pub mod Domains
pub mod OverDomains
