pub mod ListedLemmas
pub mod AnswerLemmas
pub mod LanguageLemmas
pub mod RunLemmas
pub mod PathLemmas
