mod ChangeLemmas
mod RecordLemmas
mod EndLemmas
mod RelinkLemmas
pub mod EditLemmas
mod AloneLemmas
mod SegmentLemmas
mod HomeLemmas
