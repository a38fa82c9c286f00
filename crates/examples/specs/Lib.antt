-- What the examples' contracts speak of beside the words of the crates below.
pub mod Plane
pub mod SumCheck
