mod StockLemmas
mod FrontLemmas
mod GiftLemmas
mod DueLemmas
mod CarryLemmas
mod EndLemmas
pub mod FitLemmas
