pub mod ChangeLemmas
pub mod CommandLemmas
pub mod LineLemmas
pub mod PathLemmas
