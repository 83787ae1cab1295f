pub mod Between
pub mod Stops
