pub mod Ends
pub mod Evaluation
pub mod Samples
pub mod Steps
pub mod Course
pub mod Asked
pub mod Laws
pub mod inside
