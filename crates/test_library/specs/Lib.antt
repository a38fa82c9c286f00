-- What the tests say of costs.
pub mod Costs
