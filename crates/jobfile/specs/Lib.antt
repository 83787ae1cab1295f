pub mod Ready
pub mod Answer
