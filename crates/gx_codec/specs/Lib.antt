pub mod Stored
pub mod Layouts
pub mod Slots
