mod WorkLemmas
mod StepLemmas
mod FollowLemmas
pub mod CrashLemmas
pub mod RecordLemmas
pub mod PartLemmas
