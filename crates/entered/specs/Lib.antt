-- Sets of entered aisles.
pub mod Sets
