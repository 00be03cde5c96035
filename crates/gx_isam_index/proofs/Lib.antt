pub mod SeparatorLemmas
pub mod IndexLemmas
pub mod LayoutLemmas
