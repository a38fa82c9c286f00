-- Lemmas of this crate: products of x - z over halves of points, what stands for a polynomial over each, sums of weights
-- times products, and values at roots of unity; and in Callers what another crate needs of the calls.
pub mod BlockWeighed
pub mod BlockWraps
pub mod Callers
pub mod MiddleProducts
pub mod Multiples
pub mod Nodes
pub mod PastProducts
pub mod PointParts
pub mod PowerSums
pub mod Remainders
pub mod RootPlaces
pub mod ScaledRemainders
pub mod TableProducts
pub mod TableQuotients
pub mod UpperParts
pub mod Weighed
