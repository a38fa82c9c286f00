-- Orders of roots of unity.
pub mod Order
