-- What callers of quotients need.
pub mod Remainders
