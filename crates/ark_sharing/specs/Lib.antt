-- What a sharing of a secret is.
pub mod Sharing
