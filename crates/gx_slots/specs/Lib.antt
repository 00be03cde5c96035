pub mod Entries
pub mod Page
pub mod Scan
pub mod Spots
