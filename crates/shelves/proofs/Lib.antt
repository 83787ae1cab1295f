-- Laws of the shelf of a job.
pub mod Records
pub mod Shelving
