-- What the contracts of divisions and of power series cite.
pub mod Divisors
pub mod PowerSeries
pub mod Signs
