pub mod Words
pub mod Form
pub mod Faults
pub mod Reading
pub mod Values
pub mod Written
pub mod inside
