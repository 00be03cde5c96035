pub mod Schema
pub mod Tasks
pub mod Workload
pub mod Summary
pub mod Laws
