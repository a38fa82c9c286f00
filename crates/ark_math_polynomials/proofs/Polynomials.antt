-- Polynomials in one variable, by coefficient functions: lists and pairs that denote them, products, quotients, values and
-- zeros.
pub mod Binomials
pub mod LinearFactors
pub mod LinearQuotients
pub mod PairProducts
pub mod Permuted
pub mod Quotients
pub mod Trimmed
pub mod Univariate
pub mod UnivariateLists
pub mod UnivariateLoops
pub mod UnivariatePairs
pub mod UnivariateProducts
pub mod UnivariateValues
pub mod Zeros
