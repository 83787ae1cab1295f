pub mod Points
pub mod Flooded
