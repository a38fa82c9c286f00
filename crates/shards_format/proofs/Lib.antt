-- Lemmas of this crate.
pub mod Marks
pub mod UsedPlaces
pub mod BlockLists
pub mod FileLists
pub mod JoinLists
pub mod PlaceLists
pub mod PutRows
pub mod TrailerLists
pub mod HeaderLists
pub mod OneBody
