-- Values over a domain, the polynomial that vanishes there, weights of values, filters.
pub mod AtElements
pub mod Filters
pub mod OneFilter
pub mod PlaceValues
pub mod Vanishing
pub mod Weights
