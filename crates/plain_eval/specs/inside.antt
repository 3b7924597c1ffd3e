pub mod Sections
pub mod Readers
pub mod Held
pub mod Finished
