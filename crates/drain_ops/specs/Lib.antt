pub mod Operands
pub mod Surroundings
pub mod inside
