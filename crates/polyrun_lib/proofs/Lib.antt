-- A word spells one number or list at most, which `split` finds; a line grows number by number; values carry answers; words are read as commands; each list is the transform of another; verdicts are written line by line; words have one answer at most.
pub mod Checking
pub mod Commands
pub mod OneAnswer
pub mod OneCommand
pub mod OneWriting
pub mod Reading
pub mod Values
pub mod Writing
