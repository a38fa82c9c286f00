-- The words of the kernels' contracts: the domain that a coset is, and its bytes, tables of roots, columns of two levels, parts joined, the elements that are left, growths of counts, the cost of a transform, layouts of domains.
pub mod Columns
pub mod Coset
pub mod CosetBytes
pub mod Elements
pub mod Halves
pub mod Mixed
pub mod Scalings
pub mod Cost
pub mod LayoutLaws
pub mod Layouts
