-- Laws of the sheet and its writers.
pub mod Mapped
pub mod SheetLaws
pub mod SheetFits
