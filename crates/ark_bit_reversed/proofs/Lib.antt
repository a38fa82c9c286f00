-- Proofs of the transforms over blocks, and of what they rest on.
pub mod Ascent
pub mod BlockParts
pub mod Callers
pub mod Elements
pub mod Evaluations
pub mod FourItems
pub mod Joined
pub mod Levels
pub mod Sums
pub mod Tables
pub mod Undone
