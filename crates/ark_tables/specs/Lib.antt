-- Words of the lists behind polynomials of several variables, and of tables whose variables are exchanged.
pub mod Entries
pub mod Graded
pub mod Held
pub mod Exchanged
