-- Words of the lists behind the forms of polynomials.
pub mod Multiples
