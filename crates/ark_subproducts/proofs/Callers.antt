-- What a caller can use: from the clauses of a call to the fact that is wanted.
pub mod Values
