pub mod Choosing
pub mod Tracing
