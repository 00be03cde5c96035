pub mod Locks
pub mod Sharing
pub mod Turns
pub mod Texts
pub mod Kept
