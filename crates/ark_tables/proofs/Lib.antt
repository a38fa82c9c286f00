-- Lemmas about lists of powers and of values, entries of tables, and exchanged variables, each stated once over plain
-- variables.
pub mod Doubled
pub mod GatheredPowers
pub mod GradedOrder
pub mod HeldTables
pub mod PowerLists
pub mod SparseTables
pub mod TableLists
pub mod DenseTables
pub mod Exchanged
