pub mod WorkLemmas
mod FoundLemmas
mod AnswerLemmas
