-- Words of the contracts of calls that are parts of others.
pub mod Parts
pub mod Reading
pub mod Calls
