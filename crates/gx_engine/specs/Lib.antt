pub mod Moments
pub mod Steps
pub mod Crashes
pub mod Records
pub mod Parts
