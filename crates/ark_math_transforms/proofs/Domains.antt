-- Domains: which sizes there are, which the constructors choose, what a transform costs.
pub mod Costs
pub mod Domains
pub mod Exponents
pub mod GeneralSizes
pub mod MixedSizes
