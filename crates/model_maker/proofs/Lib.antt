pub mod DrawLemmas
pub mod DrainLemmas
pub mod FileLemmas
