pub mod Restored
pub mod AtKey
pub mod Forms
pub mod Whole
