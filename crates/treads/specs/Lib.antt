-- Definitions of a plan's treads as a list.
pub mod Treads
pub mod Filling
