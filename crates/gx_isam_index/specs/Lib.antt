pub mod Index
pub mod Fresh
pub mod Layout
