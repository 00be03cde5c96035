use Rattle.gx_bytes.proofs.SearchLemmas.{HasPassed}
use Rattle.gx_slots.specs.Page.{entries_of}
use Rattle.gx_slots.proofs.OrderLemmas.{IsBefore}
use Rattle.gx_slots.proofs.order.rank.Given as goal

abbrev pub invariant-loop-found : goal.invariant-loop-found
invariant-loop-found l = HasPassed (IsBefore l.key) (entries_of l.page) l.place l.found-iterator
