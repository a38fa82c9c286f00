-- The words of the parts' contracts: columns, rows and their domains, both ways of a part, and how the counts grow.
pub mod Counting
pub mod Parts
pub mod Ways
