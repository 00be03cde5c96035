pub mod Packs
pub mod PackLaws
pub mod Runs
pub mod RunLaws
pub mod Codes
pub mod Forms
pub mod Rules
pub mod Laws
