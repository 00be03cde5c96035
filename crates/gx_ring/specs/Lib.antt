pub mod Ring
pub mod RingLaws
pub mod Records
pub mod Places
pub mod Steps
pub mod Reads
pub mod Walks
