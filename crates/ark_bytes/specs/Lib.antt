-- What sinks and sources did, and what calls that write and read values did to the bytes.
pub mod Transfer
pub mod IoSink
pub mod IoSource
pub mod Writing
pub mod Reading
pub mod Recompressing
pub mod Either
