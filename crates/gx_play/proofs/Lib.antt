mod SayLemmas
pub mod TextLemmas
mod CommitLemmas
mod EndLineLemmas
pub mod AckedLemmas
mod LineLemmas
mod PieceLemmas
mod ReadingLemmas
pub mod CrashLemmas
pub mod AnsweringLemmas
pub mod PlayLemmas
pub mod HoldingLemmas
pub mod OverLemmas
pub mod FullLemmas
pub mod AskedLemmas
pub mod CarryingLemmas
