pub mod Callers
pub mod InputLemmas
pub mod KnownLemmas
pub mod Works
pub mod Tables
