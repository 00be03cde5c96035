pub mod States
pub mod Found
pub mod Texts
pub mod Commands
pub mod Play
pub mod Languages
pub mod Runs
pub mod Paths
