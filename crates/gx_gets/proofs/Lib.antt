pub mod PlaceLemmas
pub mod LeafLemmas
pub mod AtKey
pub mod ReadLemmas
mod ViewLemmas
mod SlotSteps
mod ReadRows
mod HeldSteps
mod WholeSteps
mod FragmentSteps
mod AccessSteps
mod KeySteps
