-- What contracts see of the values of the crates that this one shows again, and examples that are computed from the
-- definitions.
pub mod Rows
pub use Rattle.ark_fft.specs.CosetBytes
pub use Rattle.ark_univariate.specs.DenseOrSparse
pub use Rattle.ark_univariate.specs.DomainBytes
pub use Rattle.ark_univariate.specs.Domains
pub use Rattle.ark_univariate.specs.Values
pub use Rattle.ark_univariate.specs.ValuesBytes
pub use Rattle.ark_multi.specs.Extensions
pub use Rattle.ark_univariate.specs.declared.polynomial.univariate.dense_or_sparse.DenseOrSparsePolynomial
pub use Rattle.ark_multi.specs.declared.multilinear.dense.DenseMultilinearExtension
pub use Rattle.ark_multi.specs.declared.multilinear.sparse.SparseMultilinearExtension
