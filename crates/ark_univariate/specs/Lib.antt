-- What contracts see of this crate's own types, how these are spelled in bytes, and laws of gathered pairs.
pub mod DenseOrSparse
pub mod Domains
pub mod DomainBytes
pub mod Values
pub mod ValuesBytes
pub mod GatheredLaws
pub mod LayoutLaws
pub mod Layouts
