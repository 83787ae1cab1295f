pub mod Ways
pub mod Greedy
