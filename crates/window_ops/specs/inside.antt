pub mod Classes
pub mod Extremes
pub mod Outcomes
pub mod Sums
