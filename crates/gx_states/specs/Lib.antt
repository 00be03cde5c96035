pub mod Internal
pub mod Terms
pub mod Built
pub mod Stored
