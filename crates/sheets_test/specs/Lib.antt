-- The jobs whose sheets are printed.
pub mod Jobs
