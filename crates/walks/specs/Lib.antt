pub mod Letters
pub mod Lawfully
