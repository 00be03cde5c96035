mod PlaceLemmas
mod GatherLemmas
mod KeyLemmas
mod SearchLemmas
