-- What the contracts of the program are stated with.
pub mod Verdicts
