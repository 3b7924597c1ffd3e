pub mod FirstUnsound
pub mod SumLaws
pub mod Ways
