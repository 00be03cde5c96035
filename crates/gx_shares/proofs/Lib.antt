mod SayLemmas
mod SessionLemmas
mod RunLemmas
mod HeardLemmas
mod StandLemmas
mod KeepLemmas
mod CarryLemmas
pub mod LineLemmas
mod GoingLemmas
mod ReadLemmas
pub mod FullLemmas
mod StepLemmas
mod PlayLemmas
mod OverLemmas
mod HearLemmas
mod CommitLemmas
mod AckedLemmas
