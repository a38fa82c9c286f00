-- What transforms cost, from the definition.
mod Counted
