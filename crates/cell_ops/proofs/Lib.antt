pub mod Callers
pub mod Shapes
