pub mod StoredLemmas
pub mod LayoutLemmas
pub mod LengthLemmas
pub mod SlotLemmas
