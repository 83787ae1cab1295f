pub mod Digits
pub mod Words
pub mod Storing
pub mod Whole
