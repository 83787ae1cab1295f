-- Laws of the picks.
pub mod Cells
pub mod Lines
pub mod Turns
pub mod Visits
