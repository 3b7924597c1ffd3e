-- Words of the contracts of calls that are parts of others.
pub mod Columns
pub mod Outputs
pub mod Parts
pub mod Running
pub mod Stages
pub mod Standings
pub mod Tallies
