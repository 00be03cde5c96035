pub mod Places
pub mod Standings
pub mod Shared
pub mod Turns
