pub mod EndLemmas
pub mod SeenLemmas
