-- Two elements side by side, as contracts see them.
pub mod Lanes
