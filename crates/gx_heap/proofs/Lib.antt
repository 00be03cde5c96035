pub mod HeapLemmas
pub mod HeapLaws
