pub mod Digits
pub mod Maps
