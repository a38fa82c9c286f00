-- What the proofs of functions that make lists share: lists that grow, rising and spaced ones, pairs in order and their sums.
pub mod Pushed
pub mod Rising
pub mod SortedPairs
pub mod Spaced
pub mod SparseSums
