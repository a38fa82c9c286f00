-- Lemmas of this crate, beside those of `ark_math`, and those of `ark_bytes` that callers need.
pub mod Element
pub mod Element32
pub mod ElementBytes
pub mod Numerals
pub mod Reductions
pub mod WordReduction
pub use Rattle.ark_bytes.proofs.ReadBack
pub use Rattle.ark_bytes.proofs.Transfer
