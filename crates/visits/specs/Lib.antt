-- What the contracts of the order of the picks are stated with.
pub mod Visited
pub mod Numbered
