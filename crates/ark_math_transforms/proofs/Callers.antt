-- What callers of domains need to compute which size they get.
pub mod ComputedSizes
pub mod Sizes
