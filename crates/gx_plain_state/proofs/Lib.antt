mod MapLemmas
