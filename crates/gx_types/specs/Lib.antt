pub mod Any
pub mod FileForms
pub mod HeadRules
pub mod Links
pub mod Makers
pub mod Nodes
pub mod Build
pub mod Passing
