pub mod Channels
pub mod Held
pub mod Noted
pub mod Collected
pub mod Driven
