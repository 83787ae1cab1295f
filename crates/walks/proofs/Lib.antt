pub mod Places
pub mod Choice
pub mod Stepping
pub mod Onward
pub mod Start
