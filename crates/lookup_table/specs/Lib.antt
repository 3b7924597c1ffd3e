pub mod Columns
pub mod Keys
pub mod Form
pub mod Faults
pub mod Reading
pub mod inside
