pub mod BoolLemmas
pub mod ListLemmas
pub mod MemberLemmas
pub mod NumberLemmas
pub mod OrderingLemmas
pub mod ResultLemmas
