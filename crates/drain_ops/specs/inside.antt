pub mod Cutout
pub mod Judged
pub mod Trails
pub mod Upward
pub mod Waits
