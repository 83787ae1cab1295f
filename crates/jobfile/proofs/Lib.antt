pub mod Left
pub mod Ranges
pub mod Weighing
pub mod Looking
pub mod Verdicts
