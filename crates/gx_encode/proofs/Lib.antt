pub mod PackSteps
pub mod RunSteps
pub mod GatherLemmas
