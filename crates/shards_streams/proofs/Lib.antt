-- Lemmas of this crate.
pub mod Results
pub mod EachItem
pub mod Writers
pub mod PartsRead
pub mod Taken
pub mod Headed
pub mod Wholes
pub mod Bodies
pub mod Pieces
pub mod Joined
pub mod Listed
pub mod Rejoined
pub mod Remade
pub mod Repaired
pub mod FirstPieces
