-- Domains: their elements, which lie in which, and what all lawful ones have.
pub mod Contained
pub mod Elements
pub mod LawfulDomains
