pub mod Device
pub mod Causes
pub mod Store
pub mod Opening
pub mod Making
pub mod Crashes
pub mod Opened
