pub mod Branches
pub mod Forks
pub mod Page
pub mod Scan
