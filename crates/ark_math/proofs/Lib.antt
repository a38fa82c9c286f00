-- Lemmas that the lowest crates cite, each stated once over plain variables, in folders by subject. Solve and Ring of Algebra
-- close equations of fields and modules by computation.
pub mod Algebra
pub mod Callers
pub mod Domains
pub mod Lists
pub mod Numbers
pub mod Outcomes
pub mod Roots
