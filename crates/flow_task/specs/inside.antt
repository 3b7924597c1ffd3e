pub mod Abouts
pub mod Begins
pub mod Due
pub mod Kept
pub mod Packed
pub mod States
pub mod Underway
