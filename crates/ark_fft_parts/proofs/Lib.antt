-- Lemmas of transforms in parts: their law (Making), its inverse (Unmaking) and products (Products), the parts' domains, the loops over columns and rows (Matrices), and counts.
pub mod Counting
pub mod Domains
pub mod Making
pub mod Matrices
pub mod Products
pub mod Unmaking
