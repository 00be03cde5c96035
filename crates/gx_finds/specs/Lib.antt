pub mod Planned
pub mod Spans
pub mod Looked
