-- The two jobs tried.
pub mod Trials
