-- Lemmas of the laws of multilinear extensions.
pub mod MultilinearTerms
pub mod SameMultilinear
