-- Words of the contracts of calls that are parts of others.
pub mod Asked
pub mod Pieces
pub mod Puts
pub mod Top
