-- What callers that compare bytes need.
pub mod Bytes
