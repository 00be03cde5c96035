pub mod Begun
pub mod Reader
pub mod Pieces
