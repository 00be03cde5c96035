pub mod Page
pub mod Parts
pub mod Records
