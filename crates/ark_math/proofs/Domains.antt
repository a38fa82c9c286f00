-- Which sizes of radix 2 there are.
pub mod Sizes
