-- Lemmas of this crate: the mathematics of restoration, and what the steps of its functions need.
pub mod ChosenFactors
pub mod Distance
pub mod Divided
pub mod Factors
pub mod FirstPlaces
pub mod Kept
pub mod Locators
pub mod Lost
pub mod Messages
pub mod Monic
pub mod Parts
pub mod Places
pub mod Refused
pub mod Restored
pub mod Sizes
pub mod Spent
