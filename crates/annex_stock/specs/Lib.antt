-- The stock that counts.
pub mod Stocked
