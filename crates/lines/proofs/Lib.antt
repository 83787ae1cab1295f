-- Laws of texts and their writers.
pub mod Writing
pub mod Sizes
