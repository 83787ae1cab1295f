pub mod Blocks
pub mod Numbers
pub mod Finding
pub mod StageLaws
pub mod Ranges
