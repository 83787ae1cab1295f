pub mod FirstRanks
pub mod Attaining
pub mod ChoiceLaws
pub mod TraceLaws
pub mod TraceRows
pub mod TraceEnds
pub mod EmptyLists
