-- Files in pieces.
pub mod Stripes
pub mod Parts
pub mod Headers
pub mod Trailers
pub mod Pieces
pub mod Files
pub mod Places
