pub mod Callers
pub mod DrainingLemmas
pub mod EdgeLemmas
pub mod InsideLemmas
pub mod Lists
pub mod LoadLemmas
pub mod PartLemmas
pub mod SettledLemmas
