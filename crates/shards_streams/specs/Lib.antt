-- What splitting and joining over sources and sinks did to the bytes.
pub mod Writers
pub mod Readers
pub mod Streams
pub mod Splitting
pub mod Joining
pub mod Repairing
pub mod Checking
pub mod Laws
