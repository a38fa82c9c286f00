-- What callers of transforms need.
pub mod Transforms
