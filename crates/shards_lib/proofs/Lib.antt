-- Lemmas of this crate.
pub mod DomainSizes
pub mod Values
pub mod Windows
pub mod Marks
pub mod OnlyMemory
pub mod Room
pub mod NumberSums
pub mod Extended
pub mod Weighted
pub mod PointsMemory
