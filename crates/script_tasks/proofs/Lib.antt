pub mod Callers
pub mod CountLemmas
mod StageLemmas
mod TaskLemmas
mod TreeLemmas
