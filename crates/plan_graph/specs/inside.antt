pub mod Channels
pub mod Distinct
pub mod Joined
pub mod Kept
pub mod Made
pub mod Numbers
pub mod Places
pub mod Slots
