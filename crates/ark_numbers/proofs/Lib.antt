-- Numbers carry a field's operations to those of its numbers, and so every answer.
pub mod Values
pub mod CarriedExtensions
