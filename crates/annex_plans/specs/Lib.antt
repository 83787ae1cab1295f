-- The plan of a number, and plans of a store.
pub mod Numbered
pub mod OfStore
