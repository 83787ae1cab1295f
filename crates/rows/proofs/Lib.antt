pub mod Relaxing
pub mod Pairing
pub mod Keys
pub mod KeyRows
