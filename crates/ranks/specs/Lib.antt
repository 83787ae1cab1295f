-- The actions that rank behind TOP.
pub mod Gaps
