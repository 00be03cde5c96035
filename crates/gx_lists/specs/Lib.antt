pub mod Counts
pub mod Inverted
pub mod InvertedLaws
pub mod Arrays
pub mod Joined
pub mod ArrayLaws
