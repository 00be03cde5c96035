pub mod Indexed
pub mod Explained
pub mod Explaining
