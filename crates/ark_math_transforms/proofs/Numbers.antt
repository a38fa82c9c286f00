-- Numbers with their bits turned round.
pub mod BitReversal
