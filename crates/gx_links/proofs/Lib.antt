pub mod MemberLemmas
pub mod RowLemmas
pub mod KindLemmas
pub mod OwnerLemmas
pub mod PairLemmas
pub mod JoinLemmas
pub mod SpanLemmas
pub mod ReplaceLemmas
