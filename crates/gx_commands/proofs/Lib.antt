pub mod BareLaws
pub mod CuttingLaws
pub mod LineCounts
pub mod LineLaws
pub mod WordLaws
pub mod TurnLaws
