mod KeyOrder
pub mod Each
pub mod Entries
pub mod Lists
pub mod Made
pub mod Orders
