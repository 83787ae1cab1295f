-- What the contracts of the sheet's writers are stated with.
pub mod Parts
