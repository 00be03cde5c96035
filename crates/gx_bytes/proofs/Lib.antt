pub mod NumberLemmas
pub mod PageLemmas
pub mod PairLemmas
pub mod PartLemmas
pub mod RecordLemmas
pub mod ScanLemmas
pub mod SearchLemmas
