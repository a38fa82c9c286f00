-- Lemmas over plain variables.
pub mod BaseLists
