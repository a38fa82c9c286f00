-- Natural numbers: factors, powers that divide, powers of two, primes, searches below a number.
pub mod Factors
pub mod GreatestPowers
pub mod PowersOfTwo
pub mod Prime
pub mod Search
