pub mod LegLemmas
pub mod LineLemmas
pub mod FewLemmas
