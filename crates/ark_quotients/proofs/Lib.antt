-- What the proofs of the crate's functions share.
pub mod Backwards
pub mod Divisors
pub mod PowerSeries
pub mod ConvertedLists
pub mod LongDivision
