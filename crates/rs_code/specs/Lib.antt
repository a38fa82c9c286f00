-- What codes and decoders are, and the words of the steps that restore a codeword.
pub mod Code
pub mod Codeword
pub mod Cost
pub mod Locator
pub mod Refusals
pub mod Turns
