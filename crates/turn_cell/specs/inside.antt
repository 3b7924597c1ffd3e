pub mod Views
pub mod Ruled
