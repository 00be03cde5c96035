mod FileLemmas
mod KeyLemmas
mod PairLemmas
mod SearchLemmas
mod StateLemmas
mod TextLemmas
