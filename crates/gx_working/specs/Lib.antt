pub mod Answering
pub mod Worked
pub mod Counts
pub mod Crashes
