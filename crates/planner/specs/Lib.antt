-- What the contracts of the library calls are stated with.
pub mod Answered
pub mod Paged
pub mod Tried
