pub mod Kinds
pub mod Places
pub mod Wholeness
pub mod Space
pub mod Checks
pub mod PagedLaws
pub mod Paged
pub mod Making
