-- What contracts see of this crate's own types, how these are spelled in bytes, lists of terms, and the words of the steps
-- that merge terms.
pub mod Extensions
pub mod SortedTerms
pub mod LayoutLaws
pub mod Layouts
pub mod TermLists
