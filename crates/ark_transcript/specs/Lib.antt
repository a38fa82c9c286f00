-- What a transcript is: calls, the bytes that they spell, and the challenges that follow from them.
pub mod Calls
pub mod Challenges
pub mod Kept
pub mod Noted
