-- Lemmas on formats of bytes, over plain variables.
pub mod Callers
pub mod Formats
