pub mod Words
pub mod Lengths
pub mod Requests
pub mod Fetched
pub mod Checked
