-- The field of the numbers below a prime of four words, from the bottom: words and the number that they spell; a prime's
-- constants; what the steps of an inverse do; elements, with their laws and bytes.
pub mod Words
pub mod WordsLaws
pub mod Draws
pub mod Primes
pub mod Modulus256
pub mod Modulus256Laws
pub mod Euclid
pub mod Element
pub mod ElementLaws
pub mod ElementBytes
