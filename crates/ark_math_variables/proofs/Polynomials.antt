-- Terms, lists of them, values and degrees; corners of the cube, multilinear extensions and tables.
pub mod Cube
pub mod Multilinear
pub mod Multivariate
pub mod OnlyMultilinear
pub mod SquareFree
pub mod Tables
pub mod Terms
