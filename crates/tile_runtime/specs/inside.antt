pub mod Knowledge
pub mod Turns
pub mod Moves
pub mod Roots
