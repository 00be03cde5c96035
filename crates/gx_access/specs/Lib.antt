pub mod Arrangements
pub mod Access
pub mod Seen
pub mod Views
pub mod Whole
pub mod Held
pub mod Leaves
pub mod Layers
