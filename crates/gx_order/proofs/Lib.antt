pub mod BelowLemmas
pub mod OrderLemmas
