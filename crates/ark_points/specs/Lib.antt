-- Words of the private steps.
pub mod Steps
