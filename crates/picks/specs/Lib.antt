-- What the contracts of the picks are stated with.
pub mod Picking
