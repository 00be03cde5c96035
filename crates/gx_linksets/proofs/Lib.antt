pub mod LeafLemmas
pub mod StoredLemmas
