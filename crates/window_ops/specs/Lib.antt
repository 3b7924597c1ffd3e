pub mod Laws
pub mod Surroundings
pub mod inside
