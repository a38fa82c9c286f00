-- Where reading ends, what a spelling tells, and formats of two modes.
pub mod Ends
pub mod Modes
pub mod OneToOne
