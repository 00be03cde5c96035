pub mod Modes
pub mod Agreement
pub mod Carried
pub mod Serial
pub mod Replays
pub mod Lines
pub mod Once
