pub mod AreaResults
pub mod Areas
pub mod Laws
pub mod Numbers
pub mod WindowResults
pub mod Windows
pub mod inside
