pub mod BranchLemmas
pub mod ForkLemmas
pub mod OrderLemmas
pub mod PageLemmas
pub mod ScanLemmas
pub mod SplitLemmas
