mod ReaderLemmas
pub mod FoundLemmas
