-- Lemmas of this crate.
pub mod AllPieces
pub mod Concats
pub mod LastBytes
pub mod Rejoined
pub mod Sized
pub mod Starts
pub mod Opened
