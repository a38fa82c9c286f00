-- Lemmas of this crate: what is written and read of evaluations, lists that are transformed side by side, and the order that
-- starts with a subdomain.
pub mod ValuesTransfer
pub mod Lanes
pub mod Multiples
pub mod Reindexed
