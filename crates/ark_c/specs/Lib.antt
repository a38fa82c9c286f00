-- The fields that numbers name, and the number of each outcome.
pub mod Names
pub mod Statuses
pub mod Pieces
pub mod SumFields
