pub mod PlannedLemmas
mod SpanLemmas
mod StepLemmas
