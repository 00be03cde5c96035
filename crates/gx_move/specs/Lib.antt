pub mod Stocks
pub mod Giving
