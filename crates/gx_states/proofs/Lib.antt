pub mod CountLemmas
pub mod LinkLemmas
pub mod StoredLemmas
pub mod StartLemmas
pub mod ToldLemmas
pub mod TermLemmas
pub mod SizeLemmas
