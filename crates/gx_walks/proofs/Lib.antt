mod Tests
mod WayBack
mod SetLemmas
mod LegLemmas
mod StepLemmas
mod EngineLemmas
pub mod DueLemmas
