pub mod NameLemmas
pub mod StoreLemmas
pub mod UnchangedLemmas
mod CrashLemmas
mod EndedLemmas
pub mod GivenLemmas
pub mod MemoryLemmas
mod PlayerLemmas
mod SaidLemmas
mod AnswerLemmas
mod MakeLemmas
mod LeavingLemmas
mod WorkingLemmas
mod WorkLemmas
mod WrongLemmas
mod DamageLemmas
mod ReadLemmas
mod InspectLemmas
mod RunHeldLemmas
mod RunOnLemmas
mod RunStoreLemmas
pub mod LaterLemmas
pub mod ExplainedLemmas
pub mod SpaceLemmas
