pub mod Jobs
pub mod Lists
pub mod Free
