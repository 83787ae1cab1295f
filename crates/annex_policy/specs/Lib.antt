-- What a policy's rules are stated with.
pub mod Ruled
pub mod Rows
pub mod Middle
pub mod Noted
