pub mod Filling
pub mod Composition
mod Records
mod DigitLaws
mod Rows
mod DemandMaps
