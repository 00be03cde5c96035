pub mod Fronts
pub mod Forms
pub mod Cells
pub mod Pairs
pub mod Plain
