mod LeafLemmas
mod WordLemmas
mod FetchLemmas
pub mod RequestLemmas
pub mod AskedLemmas
pub mod AcceptedLemmas
pub mod OnceLemmas
pub mod DecidedLemmas
