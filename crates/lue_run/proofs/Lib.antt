pub mod AnswerLemmas
pub mod MakeLemmas
mod PieceLemmas
pub mod TaskLemmas
