-- The numbers of stripes.
pub mod Numbers
pub mod NumberLaws
pub mod Rows
pub mod Places
pub mod Weights
pub mod Products
pub mod Doubled
pub mod PlaceValues
pub mod Systematic
