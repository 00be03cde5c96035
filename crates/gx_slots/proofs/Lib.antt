pub mod AscendingLemmas
pub mod EntryLemmas
pub mod OrderLemmas
pub mod PageLemmas
pub mod ScanLemmas
pub mod SearchLemmas
pub mod SplitLemmas
pub mod SpotLemmas
