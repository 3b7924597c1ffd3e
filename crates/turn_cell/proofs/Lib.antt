pub mod ListLemmas
pub mod AuthorLemmas
pub mod EntryLemmas
pub mod ViewLemmas
pub mod StepLemmas
pub mod SeatLemmas
pub mod Callers
