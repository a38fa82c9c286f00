-- What a sum-check is: sums over the cube, rounds, and which of them are accepted, true or unlucky; and what contracts see
-- of a prover.
pub mod Cube
pub mod Embedded
pub mod Lists
pub mod Provers
pub mod Rounds
pub mod Verdicts
