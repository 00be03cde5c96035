pub mod Names
pub mod Reading
pub mod Grammar
pub mod Shape
pub mod Faults
pub mod Paths
