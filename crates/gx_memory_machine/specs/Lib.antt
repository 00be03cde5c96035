pub mod Counts
pub mod Names
pub mod Log
pub mod Trace
pub mod Crash
pub mod Memory
