-- What crates over tables of roots use: powers of two, values over runs of elements, lists filled up with zeros, values by halves.
pub mod Padded
pub mod PowersOfTwo
pub mod Runs
pub mod Splits
