-- Laws of the order of the picks.
pub mod Runs
pub mod Counts
pub mod Order
pub mod Notes
pub mod Steps
pub mod Asked
