pub mod States
pub mod Steps
pub mod Tables
