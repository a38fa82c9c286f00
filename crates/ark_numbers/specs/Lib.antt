-- Fields by their numbers, and what calls answer over them.
pub mod Fields
pub mod Answers
