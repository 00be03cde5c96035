pub mod Stored
pub mod Search
pub mod Changes
pub mod Owners
pub mod Members
