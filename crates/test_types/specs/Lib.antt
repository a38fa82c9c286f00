-- A field of four elements with its laws and its spellings in bytes, and a module of one value.
pub mod Four
pub mod FourLaws
pub mod FourBytes
pub mod Nothing
