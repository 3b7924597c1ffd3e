pub mod Key
pub mod Form
pub mod Faults
pub mod Reading
pub mod Written
pub mod inside
