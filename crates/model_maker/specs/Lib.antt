pub mod Cells
pub mod Draws
pub mod Files
pub mod Laws
pub mod Made
pub mod Rain
pub mod Script
pub mod inside
