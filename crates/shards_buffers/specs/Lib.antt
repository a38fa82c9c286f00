-- Pieces in one list of bytes.
pub mod Sizes
pub mod Runs
pub mod Opened
