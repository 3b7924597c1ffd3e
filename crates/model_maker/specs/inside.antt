-- Words of the contracts of calls that are parts of others.
pub mod Drawn
pub mod States
