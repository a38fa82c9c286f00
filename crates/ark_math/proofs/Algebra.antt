-- Rings, fields and modules: equations by computation, sums, powers, products, values that aren't zero.
pub mod Groups
pub mod Powers
pub mod Regrouped
pub mod Ring
pub mod Signed
pub mod Solve
pub mod Sums
pub mod NonZero
pub mod Products
