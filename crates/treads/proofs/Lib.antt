-- Laws of a plan's treads as a list.
pub mod Places
pub mod Reaching
pub mod Filled
