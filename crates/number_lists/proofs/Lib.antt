pub mod ListLemmas
mod TurnedLemmas
mod HolderLemmas
pub mod Callers
