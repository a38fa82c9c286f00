-- Numbers with their bits turned round, the order in which a transform in place leaves its values.
pub mod BitReversal
