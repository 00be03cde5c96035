pub mod BehindLemmas
mod IndexedLaws
mod ExplainLemmas
pub mod ExplainOnceLemmas
pub mod ExplainEndLemmas
pub mod DirectionLemmas
