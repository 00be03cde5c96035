pub mod Commands
pub mod Paths
pub mod LineWhys
pub mod Words
pub mod Cutting
pub mod Lines
pub mod Turns
