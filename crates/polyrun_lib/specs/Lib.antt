-- What a word spells, which words are a command, what a line says, what the program answers, how an answer is written, what is said of rows, and examples of each.
pub mod Words
pub mod Commands
pub mod Lines
pub mod Answer
pub mod Outcome
pub mod Written
pub mod Vectors
pub mod Check
pub mod Examples
