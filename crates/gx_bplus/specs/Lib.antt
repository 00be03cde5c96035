pub mod Changes
pub mod Search
pub mod Splits
