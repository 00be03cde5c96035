pub mod Records
pub mod Edits
pub mod OneRecord
pub mod Home
