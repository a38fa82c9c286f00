-- What a sum-check by a transcript is: what it absorbs and asks for, and what a proof has and spells.
pub mod Derived
pub mod Sent
pub mod ProofBytes
