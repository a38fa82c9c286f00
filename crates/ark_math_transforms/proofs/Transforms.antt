-- Transforms and their inverses; maps that carry them.
pub mod Carried
pub mod Inverses
pub mod Inversion
pub mod Places
pub mod Transforms
