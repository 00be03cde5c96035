pub mod Shares
pub mod Player
pub mod Ends
pub mod Steps
pub mod Going
pub mod Carried
pub mod Reads
pub mod Acknowledged
