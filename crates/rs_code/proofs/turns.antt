-- Lemmas of places and of factors by quarter turns.
pub mod QuarterTurns
pub mod SortedRoots
pub mod TableOrder
pub mod TurnFactors
pub mod TurnedPlaces
