pub mod Owners
pub mod Paged
pub mod View
pub mod Laws
