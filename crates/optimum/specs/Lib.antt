pub mod Least
pub mod Table
pub mod Demand
pub mod Routing
