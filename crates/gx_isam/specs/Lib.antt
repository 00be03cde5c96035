pub mod Isam
pub mod Change
pub mod Visited
pub mod Map
pub mod Fresh
pub mod Rebuild
