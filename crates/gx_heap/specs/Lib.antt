pub mod Heap
pub mod Map
