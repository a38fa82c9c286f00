-- Elements side by side.
pub mod Lanewise
pub mod Row
pub mod RowLaws
