pub mod Answers
pub mod Course
pub mod Ends
pub mod Kinds
pub mod Lines
pub mod Words
pub mod inside
