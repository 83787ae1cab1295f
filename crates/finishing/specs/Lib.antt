-- What the contracts of a routed job are stated with.
pub mod Answered
pub mod Paged
pub mod Toured
