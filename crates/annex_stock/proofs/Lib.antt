-- Laws of the stock that is lent.
pub mod Supplies
pub mod OfJob
