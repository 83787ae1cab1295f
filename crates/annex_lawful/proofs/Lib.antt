-- Laws of the tests of lawfulness, and of lengths.
pub mod Crossings
pub mod LawfulLaws
pub mod LengthLaws
