-- The definitions that the lowest crates cite, each in the words of a textbook, in the order in which they are met: numbers
-- of several words; fields, modules and roots of unity; domains, transforms and cost; polynomials in one variable; what all
-- forms of polynomials share; what calls answer; values that are drawn; primes.
pub mod Words
pub mod Field
pub mod Module
pub mod Root
pub mod Domain
pub mod Transform
pub mod Cost
pub mod Univariate
pub mod Forms
pub mod Outcome
pub mod Draws
pub mod Prime
