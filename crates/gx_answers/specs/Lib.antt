pub mod Work
pub mod Queries
