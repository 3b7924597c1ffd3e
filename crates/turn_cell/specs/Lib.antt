pub mod Histories
pub mod Authors
pub mod Turns
pub mod inside
pub mod Seats
