pub mod Buckets
pub mod Hash
pub mod Gathered
pub mod Visited
