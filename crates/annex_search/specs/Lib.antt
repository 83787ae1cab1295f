-- What the search is stated with.
pub mod Keeping
pub mod Searched
