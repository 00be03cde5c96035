pub mod Walks
pub mod Directions
pub mod Readers
pub mod Engines
pub mod EngineLaws
