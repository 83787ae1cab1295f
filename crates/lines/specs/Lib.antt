-- What the contracts of the writers are stated with.
pub mod Written
