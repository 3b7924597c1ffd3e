pub mod Laws
pub mod Partials
pub mod inside
