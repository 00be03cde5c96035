pub mod LinkedLemmas
mod ChangeLemmas
mod SearchLemmas
mod OwnerLemmas
pub mod MemberLemmas
