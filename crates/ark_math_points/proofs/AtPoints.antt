-- Lagrange's basis and weights, Newton's form, parts of points.
pub mod Basis
pub mod Lagrange
pub mod Newton
pub mod PairParts
