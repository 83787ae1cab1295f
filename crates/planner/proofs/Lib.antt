-- Laws of the library calls.
pub mod Replies
pub mod Space
pub mod PageReplies
pub mod PageSpace
