-- The treads at the crossings of a store.
pub mod Crossings
