pub mod Moments
pub mod inside
