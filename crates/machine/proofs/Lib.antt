pub mod Tables
pub mod StepLaws
pub mod Seen
