pub mod OnwardLemmas
pub mod DoneLemmas
pub mod Callers
