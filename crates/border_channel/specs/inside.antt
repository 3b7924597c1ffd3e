pub mod Draining
pub mod Inside
