-- Lemmas on sizes of domains, what transforms cost, and transforms with their inverses, over plain variables.
pub mod Callers
pub mod Domains
pub mod Numbers
pub mod Roots
pub mod Transforms
