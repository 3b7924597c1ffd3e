pub mod Negatives
pub mod Numbers
pub mod Points
