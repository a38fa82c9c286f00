-- Lemmas of this crate: a secret and what its shares tell of it, sums of sharings, and what a caller needs of some of the
-- shares.
pub mod Secrets
pub mod Some
pub mod Sums
