pub mod BucketLemmas
pub mod HashLemmas
pub mod PagesLemmas
pub mod SpanLemmas
pub mod MakeLemmas
pub mod VisitedLemmas
