-- Polynomials in one variable: lists and pairs in normal form, linear factors and products of them.
pub mod Linear
pub mod Nodes
pub mod NormalForms
