mod FrontLemmas
mod CellLemmas
mod MapLemmas
mod SelectLemmas
mod PlainLemmas
pub mod HeadLemmas
