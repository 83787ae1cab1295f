pub mod Values
pub mod Shelves
pub mod FixedLists
