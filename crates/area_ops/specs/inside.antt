pub mod Counts
pub mod Leaders
pub mod Runs
pub mod Tallies
