-- Laws of a routed job.
pub mod Replies
pub mod Routes
pub mod PageLaws
pub mod PageRoutes
