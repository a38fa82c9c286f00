-- What the number of an outcome tells of a call over the field that a number names.
pub mod Outcomes
pub mod Plain
pub mod OfDomains
pub mod OfCodes
pub mod Division
pub mod Interpolation
pub mod OfPieces
pub mod OverSums
