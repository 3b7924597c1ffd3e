pub mod Boards
pub mod Messages
pub mod Tickets
pub mod Claims
pub mod Tiles
pub mod Holders
pub mod inside
