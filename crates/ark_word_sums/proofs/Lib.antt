-- Lemmas of this crate: numbers as elements, proofs in bytes, addends and tables in words.
pub mod Numbers
pub mod Bytes
pub mod Spelling
pub mod AddendWords
pub mod ElementWords
pub mod OneReduction
pub mod SoundInNumbers
pub mod AddendFronts
pub mod WordTables
pub mod ReadSums
pub mod ReadProofs
pub mod SumFaults
pub mod Made
pub mod PointWords
