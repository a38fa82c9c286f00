-- What callers of polynomials of any form need.
pub mod Forms
