pub mod Promised
pub mod Ends
pub mod Readied
pub mod Needs
pub mod Laws
pub mod Complete
