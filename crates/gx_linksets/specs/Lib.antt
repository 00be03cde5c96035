pub mod Stored
pub mod Any
