pub mod CountLemmas
pub mod WorkedLemmas
pub mod DoneLemmas
mod PartLemmas
mod LeftLemmas
