pub mod OneLemmas
pub mod TwoLemmas
mod BodyLemmas
mod GroupLemmas
mod PlainLemmas
