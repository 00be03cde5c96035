pub mod Places
pub mod Bounds
pub mod RangeLaws
pub mod Rules
pub mod Laws
