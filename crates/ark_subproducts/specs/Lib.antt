-- Subproduct trees: products of x - z over points and over halves of them, and scaled remainders.
pub mod Steps
pub mod Tree
